-- The premises of the block service's statements, met (02 2026-01, specs/BlockExamples).
-- Assumes nothing.
use Prim.Native.Nat.{ℕ, ◌+◌, ◌-◌}
use native.Mathlib.Omega.{arith}
use mathlib.Core.Path.{◌≡◌, refl, ap, ◌∙◌}
use Rattle.image.specs.declared.slot.Slot.{Slot}
use Rattle.image.specs.Layout.{Has}
use Rattle.image.specs.Sound.{Sound}
use Rattle.image.proofs.DiskLaws.{fits_present}
use Rattle.demands.proofs.QuietLaws.{spec1_real}
use Rattle.answers.proofs.RegisterLaws.{real_undamaged, undamaged_valid}
use Rattle.blank.specs.Blank.{blank_of}
use Rattle.blank.proofs.SoundLaws.{blank_sound, blank_slots}
use Rattle.block.specs.Place.{place_of}
use Rattle.reached.proofs.Open.{calls_open}
use Rattle.block_demands.specs.Asked.{image_of}
use Rattle.block_demands.specs.BlockExamples.{BlankReads, ReachedAny, AnyExamples, PlaceExamples}
use Rattle.block_demands.proofs.ReadWholeLaws.{block_reads}
use Rattle.block_demands.proofs.RequestLaws.{on_disk}

pub blank_reads : BlankReads
blank_reads g fill range drive low s any same block within out size =
    let there = on_disk g block range within in
    let k : ℕ = (place_of g block).sector - 1 in
    let has : Has g (place_of g block).cylinder (place_of g block).side k = record {
      on_disk = there.cylinder;
      on_cylinder = there.side;
      on_track = omega (arith, there.sector, there.sector_some);
    } in
    let sound : Sound g (image_of drive s) = rw same (blank_sound g fill range) in
    let front = (blank_slots g fill (place_of g block).cylinder (place_of g block).side k has).front in
    let back : k + 1 ≡ (place_of g block).sector = omega (arith, there.sector_some) in
    block_reads.good drive block s g out
    (record {
      any = any;
      drive_is = low;
      disk = rw same (fits_present (blank_of g fill) g (blank_sound g fill range).fits);
      within = within;
      size = size;
    }) sound _
    (record {
      slot = k;
      has = has;
      place = refl;
      address = rw same (ap (λ (x : Slot). x.id) front ∙ ap (λ (r : ℕ). record {
        c = (place_of g block).cylinder;
        h = (place_of g block).side;
        r = r;
        n = g.n;
      }) back);
      marked = rw same (ap (λ (x : Slot). x.mark) front);
    })

pub reached_any : ReachedAny
reached_any c r = record { valid = undamaged_valid c (real_undamaged c r); spec1 = spec1_real c r }

pub any_examples : AnyExamples
unfolding calls_open
any_examples = record {
  fifo_on = record { valid = refl; spec1 = omega arith };
  fifo_on_is = refl;
  poll = record { valid = refl; spec1 = omega arith };
  poll_is = refl;
  held = record { valid = refl; spec1 = omega arith };
  held_is = refl;
  working = record { valid = refl; spec1 = omega arith };
  working_is = refl;
  heads = record { valid = refl; spec1 = omega arith };
}

pub place_examples : PlaceExamples
place_examples = record { first = refl; second = refl; other_side = refl; next_cylinder = refl; last = refl }
