-- 01 Refusals 4: no call damages a valid record, reached or not, so that none reached from power-on is damaged.
-- Assumes nothing.
use Prim.Native.Nat.{ℕ, zero, suc, ◌≤◌, ◌<◌}
use native.Mathlib.Omega.{arith}
use mathlib.Core.Bool.{true}
use mathlib.Core.List.{List}
use mathlib.Core.Path.{◌≡◌}
use Rattle.image.specs.Lent.{pick_of}
use Rattle.chip.specs.declared.fifo.Fifo.{Fifo}
use Rattle.chip.specs.Fifo.{capacity_of}
use Rattle.drive.specs.declared.Drive.{Drive}
use Rattle.drive.specs.Due.{Within}
use Rattle.sectors.specs.declared.work.Step.{Step}
use Rattle.sectors.specs.declared.work.Then.{Then}
use Rattle.sectors.specs.declared.work.Then.TheVariants.{Ends, Works}
use Rattle.engine.specs.Kept.{then_wait}
use Rattle.engine.specs.Step.{drive_of}
use Rattle.fdc.specs.declared.answer.Reply.{Reply}
use Rattle.fdc.specs.declared.record.Bytes.{Bytes}
use Rattle.fdc.specs.declared.record.Controller.{Controller}
use Rattle.fdc.specs.declared.record.Phase.{Phase}
use Rattle.fdc.specs.declared.record.Registers.{Registers}
use Rattle.fdc.specs.Record.{drive_at, phase_wait, valid_of}
use Rattle.fdc.specs.Ticks.{seen_of}
use Rattle.fdc.proofs.ValidLaws.{Valid, valid_true, true_valid}
use Rattle.reached.specs.Runs.{Call, after}
use Rattle.reached.specs.Valid.{ValidKept}
use Rattle.reached.proofs.GoodLaws.{within_rule}
use Rattle.reached.proofs.RuleLaws.{acts_kept, rule_of}
use Rattle.reached.proofs.Rules.{Acts, begins, goes_on_lem, bytes_then, phase_then, Rest, refuses, shows, steps, flags, sets, anew, took_byte, gave_byte, gathers, says, idles, specifies, configures, senses, starts, acts}
use Rattle.firmware.proofs.StepShapeLaws.{Fine, room_taken, room_given, go_on_fine, begin_fine}

-- of the engine's step: the FIFO's array and count, and how far it counts bytes
pub acts_fine : (a b : List ℕ) (c : Controller) (s : Step) → Acts a b c s → Fine c.registers.efifo c.fifo s
acts_fine a b c s (begins order head e) =
    begin_fine c.registers.efifo c.fifo order
    (seen_of c.registers.dor order.drive (pick_of order.drive a b)) head
acts_fine a b c s (goes_on_lem work head e) =
    go_on_fine c.registers.efifo c.fifo work
    (seen_of c.registers.dor (drive_of work) (pick_of (drive_of work) a b)) head (pick_of (drive_of work) a b)
    c.registers.fifothr

-- what refusal 4 looks at, but for the drives
record Numbers (r : Registers) (f : Fifo) (b : Bytes) (p : Phase) : Type 0 where
  fifo : f.count ≤ capacity_of r.efifo
  gathered : b.gathered ≤ 9
  left : b.left ≤ 7
  fifothr : r.fifothr ≤ 15
  wait : phase_wait p ≤ 64

-- and for the drives
each_within : (c : Controller) → Valid c → (k : ℕ) → k < 4 → Within (drive_at k c.drives)
each_within c v zero h = record { head = v.head0; count = v.count0 }
each_within c v (suc zero) h = record { head = v.head1; count = v.count1 }
each_within c v (suc (suc zero)) h = record { head = v.head2; count = v.count2 }
each_within c v (suc (suc (suc zero))) h = record { head = v.head3; count = v.count3 }
each_within c v (suc (suc (suc (suc k)))) h = absurd (omega arith)

valid_of_lem : (c : Controller) → ((k : ℕ) → k < 4 → Within (drive_at k c.drives))
    → Numbers c.registers c.fifo c.bytes c.phase → valid_of c ≡ true
valid_of_lem c each n = valid_true c (record {
  fifo = n.fifo;
  gathered = n.gathered;
  left = n.left;
  head0 = (each 0 (omega arith)).head;
  head1 = (each 1 (omega arith)).head;
  head2 = (each 2 (omega arith)).head;
  head3 = (each 3 (omega arith)).head;
  fifothr = n.fifothr;
  wait = n.wait;
  count0 = (each 0 (omega arith)).count;
  count1 = (each 1 (omega arith)).count;
  count2 = (each 2 (omega arith)).count;
  count3 = (each 3 (omega arith)).count;
})

module _ (call : Call) (c : Controller) (v : Valid c) where
  same : Numbers c.registers c.fifo c.bytes c.phase
  same = record { fifo = v.fifo; gathered = v.gathered; left = v.left; fifothr = v.fifothr; wait = v.wait }

  settled : (s : Step) (then : Then) → s.fifo.count ≤ capacity_of c.registers.efifo → then_wait then ≤ 63
      → Numbers c.registers s.fifo (bytes_then then c.bytes) (phase_then then)
  settled s (Ends x) f w =
      record { fifo = f; gathered = omega arith; left = omega arith; fifothr = v.fifothr; wait = omega arith }
  settled s (Works work) f w =
      record { fifo = f; gathered = v.gathered; left = v.left; fifothr = v.fifothr; wait = omega arith }

  numbers : (ds : List Drive) (reply : Reply) (r : Registers) (f : Fifo) (b : Bytes) (p : Phase)
      → Rest call c ds reply r f b p → Numbers r f b p
  numbers ds reply r f b p (refuses refusal) = same
  numbers ds reply r f b p (shows offset byte q o) = same
  numbers ds reply r f b p (steps x y q) = same
  numbers ds reply r f b p (flags drive q) = same
  numbers ds reply r f b p (sets offset byte q o n s) = record {
    fifo = rw s.efifo v.fifo;
    gathered = v.gathered;
    left = v.left;
    fifothr = rw s.fifothr v.fifothr;
    wait = v.wait;
  }
  numbers ds reply r f b p (anew x reply' n e t s still) = record {
    fifo = omega arith;
    gathered = omega arith;
    left = omega arith;
    fifothr = omega (arith, t);
    wait = omega arith;
  }
  numbers ds reply r f b p (took_byte tc x work q h asks) = record {
    fifo = (room_taken c.registers.efifo tc c.fifo).within v.fifo;
    gathered = v.gathered;
    left = v.left;
    fifothr = v.fifothr;
    wait = v.wait;
  }
  numbers ds reply r f b p (gave_byte byte tc x work q h asks) = record {
    fifo = (room_given c.registers.efifo _ byte c.fifo).within v.fifo;
    gathered = v.gathered;
    left = v.left;
    fifothr = v.fifothr;
    wait = v.wait;
  }
  numbers ds reply r f b p (gathers b' t l o m k) =
      record { fifo = v.fifo; gathered = o; left = m v.left; fifothr = v.fifothr; wait = omega arith }
  numbers ds reply r f b p (says h free reply' results left l m k) =
      record { fifo = v.fifo; gathered = omega arith; left = m v.left; fifothr = v.fifothr; wait = omega arith }
  numbers ds reply r f b p (idles h free reply') =
      record { fifo = v.fifo; gathered = omega arith; left = omega arith; fifothr = v.fifothr; wait = omega arith }
  numbers ds reply r f b p (specifies command t h second) =
      record { fifo = v.fifo; gathered = omega arith; left = omega arith; fifothr = v.fifothr; wait = omega arith }
  numbers ds reply r f b p (configures command t h byte track) =
      record { fifo = omega arith; gathered = omega arith; left = omega arith; fifothr = omega arith; wait = omega arith }
  numbers ds reply r f b p (senses command t h unit) =
      record { fifo = v.fifo; gathered = omega arith; left = omega arith; fifothr = v.fifothr; wait = omega arith }
  numbers ds reply r f b p (starts command t h order o) =
      record { fifo = v.fifo; gathered = omega arith; left = omega arith; fifothr = v.fifothr; wait = omega arith }
  numbers ds reply r f b p (acts x y q h s a) =
      settled s s.then ((acts_fine x y c s a).room.within v.fifo) (acts_kept x y c s a).0

-- 01 Refusals 4: of every call; power-on gives a valid record whatever it is handed
pub valid_kept : ValidKept
valid_kept call c h =
    let u = rule_of call c in
    let v = true_valid c h in
    valid_of_lem (after call c) (λ k l. within_rule call c _ k _ (u.drives k l) (each_within c v k l))
    (numbers call c v _ _ _ _ _ _ u.rest)
