-- The run of specs/NotFoundRuns: the premises by computing, the end by the theorem.
-- Assumes nothing.
use Rattle.std.specs.Prelude.{Some}
use Prim.Native.Nat.{ℕ, zero, suc, ◌≤◌}
use native.Mathlib.Omega.{arith}
use mathlib.Core.Bool.{true}
use mathlib.Core.Path.{◌≡◌, refl, sym, ap, ◌∙◌}
use Rattle.image.specs.declared.slot.Id.{Id}
use Rattle.image.specs.Disk.{disk_in}
use Rattle.image.specs.Examples.{disk}
use Rattle.image.specs.Layout.{size_of, track_length, track_at, offset_of, Has}
use Rattle.image.specs.Slot.{id_at}
use Rattle.reached.specs.Moves.{tick_count}
use Rattle.fdc.specs.Registers.{motor_in}
use Rattle.demands.specs.DataError.{Spins}
use Rattle.demands.specs.EndsInTime.{bound_of}
use Rattle.demands.specs.InTime.{Transfers}
use Rattle.demands.specs.NotFound.{some, has_id, other_below, other_ff, Missing, Misses}
use Rattle.demands.specs.PowerCut.{Stands, head_of}
use Rattle.demands.specs.Work.{Alone, EndsWith}
use Rattle.demands.proofs.NotFoundLaws.{not_found_lem}
use Rattle.runs.specs.Host.{idle}
use Rattle.runs.specs.NotFoundRuns.{sought_id, seeking, strange, absent, NotFoundRun}
use Rattle.runs.specs.Whole.{asked_by, calls_of}
use Rattle.runs.proofs.Open.{all_open}
use Rattle.runs.proofs.SpinLaws.{dma_spins, handing_ticks}
use Rattle.runs.proofs.WholeLaws.{real_asked, alone_in}

accepts : Transfers (asked_by absent) absent.order seeking sought_id
unfolding all_open
accepts = record { accepted = refl; moves = refl }

motor : motor_in (asked_by absent).registers.dor 1 ≡ true
unfolding all_open
motor = refl

head : head_of absent.order (asked_by absent) ≡ 0
unfolding all_open
head = refl

mounted : disk_in strange ≡ Some (disk 1 1 2 1)
unfolding all_open
mounted = refl

spins : Spins 1 (calls_of absent) (asked_by absent)
spins = dma_spins 1 (idle 1980) (asked_by absent) strange refl motor

alone : Alone 1 strange (calls_of absent) (asked_by absent)
alone = alone_in absent (omega arith)

enough : bound_of (disk 1 1 2 1) ≤ tick_count (calls_of absent)
unfolding bound_of size_of
enough = rw (handing_ticks 1 (idle 1980) (asked_by absent) strange) (omega arith)

-- neither slot has C 5
other_c : (k : ℕ) → Has (disk 1 1 2 1) 0 0 k → (id_at strange (offset_of (disk 1 1 2 1) 0 0 k)).c ≡ 5 → ⊥
unfolding offset_of track_at track_length size_of
other_c zero h e = omega arith
other_c (suc zero) h e = omega arith
other_c (suc (suc k)) h e = omega (arith, h.on_track)

nowhere : (at : ℕ) → Stands (disk 1 1 2 1) strange 0 (record { id = sought_id; side = 0 }) at → ⊥
nowhere at s =
    other_c s.slot s.has
    (ap (λ (i : ℕ). (id_at strange i).c) (sym s.place) ∙ ap (λ (x : Id). x.c) s.address)

missing : Missing (disk 1 1 2 1) strange (head_of absent.order (asked_by absent)) 0 seeking sought_id
missing =
    rw head (record {
      on_disk = omega arith;
      on_cylinder = omega arith;
      writable = λ e. refl;
      none = nowhere;
    })

-- an ID, one with another C below FF, one with FF
met : (some (has_id (disk 1 1 2 1) strange 0 0) 2 ≡ true) × (some (other_below (disk 1 1 2 1) strange 0 0 5) 2 ≡ true)
    × (some (other_ff (disk 1 1 2 1) strange 0 0 5) 2 ≡ true)
unfolding offset_of track_at track_length size_of
met = (refl, refl, refl)

ends : EndsWith (Misses absent.order sought_id true true true) (calls_of absent) (asked_by absent)
ends =
    rw (head, met.0, met.1, met.2) at
    (not_found_lem (asked_by absent) (real_asked absent refl) absent.order seeking sought_id accepts strange (disk 1 1 2 1)
    mounted missing (calls_of absent) spins alone enough)

pub not_found_run : NotFoundRun
not_found_run =
    record {
      real = real_asked absent refl;
      accepted = accepts;
      mounted = mounted;
      missing = missing;
      spins = spins;
      alone = alone;
      enough = enough;
      ends = ends;
    }
