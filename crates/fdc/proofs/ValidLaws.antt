-- What a valid record's numbers are at most, and back (01 Refusals 4).
-- Assumes nothing.
use Prim.Native.Nat.{ℕ, ◌≤◌}
use mathlib.Core.Bool.{Bool, true, false, false≢true, and-false}
use mathlib.Core.Path.{◌≡◌, refl}
use lib.Dec.{leb}
use borrow.Author.Tests.{leb-true, le-leb}
use Rattle.chip.specs.Fifo.{capacity_of}
use Rattle.drive.specs.Drive.{countdown_of}
use Rattle.fdc.specs.declared.record.Controller.{Controller}
use Rattle.fdc.specs.Record.{result_room, drive_at, phase_wait, valid_of}

pub record Valid (c : Controller) : Type 0 where
  pub fifo : c.fifo.count ≤ capacity_of c.registers.efifo
  pub gathered : c.bytes.gathered ≤ 9
  pub left : c.bytes.left ≤ result_room
  pub head0 : (drive_at 0 c.drives).head ≤ 81
  pub head1 : (drive_at 1 c.drives).head ≤ 81
  pub head2 : (drive_at 2 c.drives).head ≤ 81
  pub head3 : (drive_at 3 c.drives).head ≤ 81
  pub fifothr : c.registers.fifothr ≤ 15
  pub wait : phase_wait c.phase ≤ 64
  pub count0 : countdown_of (drive_at 0 c.drives).motion ≤ 1000
  pub count1 : countdown_of (drive_at 1 c.drives).motion ≤ 1000
  pub count2 : countdown_of (drive_at 2 c.drives).motion ≤ 1000
  pub count3 : countdown_of (drive_at 3 c.drives).motion ≤ 1000

pub valid_true : (c : Controller) → Valid c → valid_of c ≡ true
unfolding valid_of
valid_true c v =
    simp (
      le-leb _ _ v.fifo,
      le-leb _ _ v.gathered,
      le-leb _ _ v.left,
      le-leb _ _ v.head0,
      le-leb _ _ v.head1,
      le-leb _ _ v.head2,
      le-leb _ _ v.head3,
      le-leb _ _ v.fifothr,
      le-leb _ _ v.wait,
      le-leb _ _ v.count0,
      le-leb _ _ v.count1,
      le-leb _ _ v.count2,
      le-leb _ _ v.count3,
    )

-- m is at most n where its test cannot be false
at_most : (m n : ℕ) → (leb m n ≡ false → false ≡ true) → m ≤ n
at_most m n f = go (leb m n) refl
  where
    go : (t : Bool) → leb m n ≡ t → m ≤ n
    go true e = leb-true m n e
    go false e = absurd (false≢true (f e))

pub true_valid : (c : Controller) → valid_of c ≡ true → Valid c
unfolding valid_of
true_valid c h =
    record {
      fifo = at_most c.fifo.count (capacity_of c.registers.efifo) (λ e. simp (e, and-false) at h);
      gathered = at_most c.bytes.gathered 9 (λ e. simp (e, and-false) at h);
      left = at_most c.bytes.left result_room (λ e. simp (e, and-false) at h);
      head0 = at_most (drive_at 0 c.drives).head 81 (λ e. simp (e, and-false) at h);
      head1 = at_most (drive_at 1 c.drives).head 81 (λ e. simp (e, and-false) at h);
      head2 = at_most (drive_at 2 c.drives).head 81 (λ e. simp (e, and-false) at h);
      head3 = at_most (drive_at 3 c.drives).head 81 (λ e. simp (e, and-false) at h);
      fifothr = at_most c.registers.fifothr 15 (λ e. simp (e, and-false) at h);
      wait = at_most (phase_wait c.phase) 64 (λ e. simp (e, and-false) at h);
      count0 = at_most (countdown_of (drive_at 0 c.drives).motion) 1000 (λ e. simp (e, and-false) at h);
      count1 = at_most (countdown_of (drive_at 1 c.drives).motion) 1000 (λ e. simp (e, and-false) at h);
      count2 = at_most (countdown_of (drive_at 2 c.drives).motion) 1000 (λ e. simp (e, and-false) at h);
      count3 = at_most (countdown_of (drive_at 3 c.drives).motion) 1000 (λ e. simp (e, and-false) at h);
    }
