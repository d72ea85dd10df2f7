-- From bytes to orders: a complete command runs, whatever its bytes (01 Commands).
-- Assumes nothing.
use Prim.Native.Nat.{ℕ, suc, ◌+◌, ◌/◌, ◌%◌, ◌<◌, ◌≤◌}
use native.Mathlib.Omega.{arith}
use mathlib.Core.Bool.{Bool, true, false, ◌||◌, cond, and-false}
use mathlib.Core.List.{List, [], ◌∷◌}
use mathlib.Core.Logic.{◌↔◌}
use mathlib.Core.Path.{◌≡◌, refl, sym, ◌∙◌, ap}
use lib.Dec.{eqb}
use lib.ListN.{length, get_or, set, replicate}
use lib.Seq.{get_or-set_same, get_or-set_other}
use borrow.Author.Tests.{eq-eqb, eqb-true, lt-ltb, le-ltb}
use Rattle.chip.specs.declared.codes.Entry.{Entry}
use Rattle.chip.specs.declared.codes.Kind.{Kind}
use Rattle.chip.specs.declared.codes.Kind.TheVariants.{Unknown, ReadData, ReadDeleted, WriteData, WriteDeleted, ReadId}
use Rattle.chip.specs.declared.codes.Kind.TheVariants.{Format, Recalibrate, SenseInterrupt, Specify, SenseDrive, Seek}
use Rattle.chip.specs.declared.codes.Kind.TheVariants.{Version, Configure}
use Rattle.chip.specs.Commands.{kind_of, byte_count, entry_of, mt_of, sk_of}
use Rattle.chip.specs.Fifo.{emptied}
use Rattle.drive.specs.declared.Motion.{Motion}
use Rattle.drive.specs.Drive.{accepted, seek_of, recalibrate_of}
use Rattle.sectors.specs.declared.order.Order.{Order}
use Rattle.sectors.specs.declared.order.Pass.{Pass}
use Rattle.sectors.specs.declared.order.Pass.TheVariants.{Read, Write}
use Rattle.sectors.specs.declared.order.Job.TheVariants.{Identify, Move}
use Rattle.sectors.specs.declared.order.Job.TheVariants as job
use Rattle.fdc.specs.declared.record.Controller.{Controller}
use Rattle.fdc.specs.declared.record.Phase.{Phase}
use Rattle.fdc.specs.declared.record.Phase.TheVariants.{Idle, Gathering, Sensing}
use Rattle.fdc.specs.Answer.{answer_of}
use Rattle.fdc.specs.Calls.{port_of, write_reg, write_port}
use Rattle.fdc.specs.Commands.{answered_of, said_of, said_two, idled_of, specify_of, configure_of, sensing_of, sensed_of}
use Rattle.fdc.specs.Commands.{sought_of, recalibrated_of, move_order, format_order, identify_order, started_of, ran_of, heeds_of}
use Rattle.fdc.specs.Commands.{command_byte, step_time, run_of, gathered_of, goes_on, begun_of}
use Rattle.fdc.specs.Data.{offered_of, write_fifo}
use Rattle.fdc.specs.Record.{padded, no_bytes, drive_at, valid_of, with_registers, with_fifo, with_bytes, with_drives}
use Rattle.fdc.specs.Record.{with_drive, with_phase}
use Rattle.fdc.specs.Registers.{any_busy, dma_in, phase_status, msr_of}
use Rattle.reached.specs.Runs.{writes, answer_to, after, run_calls}
use Rattle.fdc.proofs.BeginLaws.{one_more_below}
use Rattle.fdc.proofs.ValidLaws.{valid_true, true_valid}
use Rattle.demands.proofs.QuietLaws.{quiet_real}
use Rattle.answers.specs.Accepts.{Ready, after_bytes, BegunOrder, Moves, read_code, write_code, Accepts, Refuses, BusyRule}
use Rattle.answers.specs.Accepts.{Specified, Configured, Settings, WaitsReady}
use Rattle.answers.specs.CommandResults.{NoneBusy}
use Rattle.answers.specs.ReadsOut.{SameElse}
use Rattle.answers.specs.Registers.{Free}
use Rattle.answers.proofs.CommandLaws.{none_held, none_busy, one_busy}
use Rattle.answers.proofs.FitLaws.{fit_real}
use Rattle.answers.proofs.RefusalLaws.{busy_le}
use Rattle.answers.proofs.RegisterLaws.{undamaged_valid, real_undamaged, free_msr}

-- the record while a command is gathered
abbrev pub held_of : Controller → Phase → List ℕ → ℕ → Controller
held_of c p l n =
    record {
      registers = c.registers;
      drives = c.drives;
      fifo = c.fifo;
      bytes = record { command = l; gathered = n; results = padded []; left = 0 };
      phase = p;
    }

abbrev pub set_all : List ℕ → ℕ → List ℕ → List ℕ
set_all l n [] = l
set_all l n (b ∷ bs) = set_all (set l n b) (n + 1) bs

-- a command runs by its bytes, and not by the phase or the count
run_same : (kind : Kind) (c : Controller) (p : Phase) (l : List ℕ) (n : ℕ)
    → run_of kind (held_of c p l n) ≡ run_of kind (held_of c Idle l 0)
unfolding run_of ran_of said_of said_two answered_of idled_of specify_of configure_of sensing_of sensed_of sought_of recalibrated_of
    started_of with_registers with_drives with_drive with_fifo with_phase
run_same Unknown c p l n = refl
run_same ReadData c p l n = refl
run_same ReadDeleted c p l n = refl
run_same WriteData c p l n = refl
run_same WriteDeleted c p l n = refl
run_same ReadId c p l n = refl
run_same Format c p l n = refl
run_same Recalibrate c p l n = refl
run_same SenseInterrupt c p l n = refl
run_same Specify c p l n = refl
run_same SenseDrive c p l n = refl
run_same Seek c p l n = refl
run_same Version c p l n = refl
run_same Configure c p l n = refl

-- one byte written, in turn
module _ (c : Controller) (v : valid_of c ≡ true) (f : Free c) where
  in_turn_lem : (upper : ℕ) → upper / 64 ≡ 2 → upper % 64 ≤ 48
      → phase_status c.phase (dma_in c.registers.spec2) c.fifo.asks ≡ upper → msr_of c / 64 ≡ 2
  in_turn_lem upper d m s = omega (arith, free_msr c f, busy_le c.drives)

  offers : (byte : ℕ) → msr_of c / 64 ≡ 2 → after (writes 5 byte) c ≡ offered_of c.phase byte c
  unfolding answer_to write_port port_of write_reg write_fifo answer_of
  offers byte t = rw (v, after) (rw (eq-eqb (msr_of c / 64) 2 t))

held_valid : (c : Controller) (entry : Entry) (l : List ℕ) (n : ℕ) → valid_of c ≡ true → n ≤ 9
    → valid_of (held_of c (Gathering entry) l n) ≡ true
held_valid c entry l n t h =
    let v = true_valid c t in
    valid_true _ (record {
      fifo = v.fifo;
      gathered = h;
      left = omega arith;
      head0 = v.head0;
      head1 = v.head1;
      head2 = v.head2;
      head3 = v.head3;
      fifothr = v.fifothr;
      wait = omega arith;
      count0 = v.count0;
      count1 = v.count1;
      count2 = v.count2;
      count3 = v.count3;
    })

bytes_le : (kind : Kind) → byte_count kind ≤ 9
bytes_le Unknown = omega arith
bytes_le ReadData = omega arith
bytes_le ReadDeleted = omega arith
bytes_le WriteData = omega arith
bytes_le WriteDeleted = omega arith
bytes_le ReadId = omega arith
bytes_le Format = omega arith
bytes_le Recalibrate = omega arith
bytes_le SenseInterrupt = omega arith
bytes_le Specify = omega arith
bytes_le SenseDrive = omega arith
bytes_le Seek = omega arith
bytes_le Version = omega arith
bytes_le Configure = omega arith

module _ (c : Controller) (v : valid_of c ≡ true) (f : Free c) (entry : Entry) (short : entry.bytes ≤ 9) where
  abbrev in_hand : List ℕ → ℕ → Controller
  in_hand l n = held_of c (Gathering entry) l n

  next_byte : (l : List ℕ) (n byte : ℕ) → n < 9
      → after (writes 5 byte) (in_hand l n) ≡ goes_on entry (in_hand (set l n byte) (n + 1))
  unfolding offered_of gathered_of with_bytes
  next_byte l n byte h =
      let t = held_valid c entry l n v (omega arith) in
      offers (in_hand l n) t f byte (in_turn_lem (in_hand l n) t f 0x90 (omega arith) (omega arith) refl)
      ∙ ap (λ (m : ℕ). goes_on entry (in_hand (set l n byte) m)) (one_more_below n h)

  goes_more : (l : List ℕ) (n : ℕ) → n < entry.bytes → goes_on entry (in_hand l n) ≡ in_hand l n
  unfolding goes_on with_phase
  goes_more l n h = rw (lt-ltb n entry.bytes h)

  goes_last : (l : List ℕ) (n : ℕ) → n ≡ entry.bytes → goes_on entry (in_hand l n) ≡ run_of entry.kind (in_hand l n)
  unfolding goes_on
  goes_last l n e = rw (le-ltb n entry.bytes (omega arith))

  -- the bytes still due
  gathers : (rest : List ℕ) (byte n : ℕ) (l : List ℕ) → n + suc (length rest) ≡ entry.bytes
      → after_bytes (byte ∷ rest) (in_hand l n)
      ≡ run_of entry.kind (held_of c Idle (set_all l n (byte ∷ rest)) 0)
  unfolding run_calls
  gathers [] byte n l e =
      next_byte l n byte (omega arith) ∙ goes_last (set l n byte) (n + 1) (omega arith)
      ∙ run_same entry.kind c (Gathering entry) (set l n byte) (n + 1)
  gathers (next ∷ rest) byte n l e =
      ap (λ (x : Controller). after_bytes (next ∷ rest) x)
      (next_byte l n byte (omega arith) ∙ goes_more (set l n byte) (n + 1) (omega arith))
      ∙ gathers rest next (n + 1) (set l n byte) (omega arith)

  -- while bytes are due it gathers
  gathers_on : (rest : List ℕ) (byte n : ℕ) (l : List ℕ) → n + suc (length rest) < entry.bytes
      → (after_bytes (byte ∷ rest) (in_hand l n)).phase ≡ Gathering entry
  unfolding run_calls
  gathers_on [] byte n l e =
      ap (λ (x : Controller). x.phase)
      (next_byte l n byte (omega arith) ∙ goes_more (set l n byte) (n + 1) (omega arith))
  gathers_on (next ∷ rest) byte n l e =
      ap (λ (x : Controller). (after_bytes (next ∷ rest) x).phase)
      (next_byte l n byte (omega arith) ∙ goes_more (set l n byte) (n + 1) (omega arith))
      ∙ gathers_on rest next (n + 1) (set l n byte) (omega arith)

-- a complete command runs, with its bytes in order
module _ (c : Controller) (r : Ready c) where
  valid : valid_of c ≡ true
  valid = undamaged_valid c r.undamaged

  first_byte : (code : ℕ) → after (writes 5 code) c ≡ begun_of code c
  unfolding offered_of
  first_byte code =
      offers c valid r.free code
      (in_turn_lem c valid r.free 0x80 (omega arith) (omega arith)
      (ap (λ (p : Phase). phase_status p (dma_in c.registers.spec2) c.fifo.asks) r.idle))
      ∙ ap (λ (p : Phase). offered_of p code c) r.idle

  first_held : (code : ℕ)
      → gathered_of code (with_bytes no_bytes c) ≡ held_of c c.phase (set (replicate 9 0) 0 code) 1
  unfolding gathered_of with_bytes
  first_held code = refl

  first_more : (code : ℕ) → 1 < byte_count (kind_of code)
      → after (writes 5 code) c ≡ held_of c (Gathering (entry_of code)) (set (replicate 9 0) 0 code) 1
  unfolding begun_of goes_on with_phase entry_of
  first_more code h =
      first_byte code ∙ ap (goes_on (entry_of code)) (first_held code)
      ∙ rw (lt-ltb 1 (byte_count (kind_of code)) h)

  first_last : (code : ℕ) → 1 ≡ byte_count (kind_of code)
      → after (writes 5 code) c ≡ run_of (kind_of code) (held_of c c.phase (set (replicate 9 0) 0 code) 1)
  unfolding begun_of goes_on with_phase entry_of
  first_last code h =
      first_byte code ∙ ap (goes_on (entry_of code)) (first_held code)
      ∙ rw (le-ltb 1 (byte_count (kind_of code)) (omega arith))

  complete : (code : ℕ) (rest : List ℕ) → suc (length rest) ≡ byte_count (kind_of code)
      → after_bytes (code ∷ rest) c
      ≡ run_of (kind_of code) (held_of c Idle (set_all (replicate 9 0) 0 (code ∷ rest)) 0)
  unfolding run_calls entry_of
  complete code [] e = first_last code e ∙ run_same (kind_of code) c c.phase _ 1
  complete code (next ∷ rest) e =
      ap (λ (x : Controller). after_bytes (next ∷ rest) x) (first_more code (omega arith))
      ∙ gathers c valid r.free (entry_of code) (bytes_le (kind_of code)) rest next 1 _ (omega arith)

  -- and before it is complete it gathers
  pub gathering : (code byte : ℕ) (rest : List ℕ) → suc (suc (length rest)) < byte_count (kind_of code)
      → (after_bytes (code ∷ byte ∷ rest) c).phase ≡ Gathering (entry_of code)
  unfolding run_calls entry_of
  gathering code byte rest e =
      ap (λ (x : Controller). (after_bytes (byte ∷ rest) x).phase) (first_more code (omega arith))
      ∙ gathers_on c valid r.free (entry_of code) (bytes_le (kind_of code)) rest byte 1 _ (omega arith)

  -- its record when it runs
  abbrev pub whole : List ℕ → Controller
  whole bytes = held_of c Idle (set_all (replicate 9 0) 0 bytes) 0

  pub completes : (code : ℕ) (rest : List ℕ) (kind : Kind) → kind_of code ≡ kind → suc (length rest) ≡ byte_count kind
      → after_bytes (code ∷ rest) c ≡ run_of kind (whole (code ∷ rest))
  completes code rest kind k e =
      complete code rest (e ∙ sym (ap byte_count k)) ∙ ap (λ (x : Kind). run_of x (whole (code ∷ rest))) k

-- a list of nine
nine : (l : List ℕ) (P : List ℕ → Type 0) → length l ≡ 9
    → ((x0 x1 x2 x3 x4 x5 x6 x7 x8 : ℕ) → P (x0 ∷ x1 ∷ x2 ∷ x3 ∷ x4 ∷ x5 ∷ x6 ∷ x7 ∷ x8 ∷ [])) → P l
nine [] P e f = absurd (omega arith)
nine (x0 ∷ []) P e f = absurd (omega arith)
nine (x0 ∷ x1 ∷ []) P e f = absurd (omega arith)
nine (x0 ∷ x1 ∷ x2 ∷ []) P e f = absurd (omega arith)
nine (x0 ∷ x1 ∷ x2 ∷ x3 ∷ []) P e f = absurd (omega arith)
nine (x0 ∷ x1 ∷ x2 ∷ x3 ∷ x4 ∷ []) P e f = absurd (omega arith)
nine (x0 ∷ x1 ∷ x2 ∷ x3 ∷ x4 ∷ x5 ∷ []) P e f = absurd (omega arith)
nine (x0 ∷ x1 ∷ x2 ∷ x3 ∷ x4 ∷ x5 ∷ x6 ∷ []) P e f = absurd (omega arith)
nine (x0 ∷ x1 ∷ x2 ∷ x3 ∷ x4 ∷ x5 ∷ x6 ∷ x7 ∷ []) P e f = absurd (omega arith)
nine (x0 ∷ x1 ∷ x2 ∷ x3 ∷ x4 ∷ x5 ∷ x6 ∷ x7 ∷ x8 ∷ []) P e f = f x0 x1 x2 x3 x4 x5 x6 x7 x8
nine (x0 ∷ x1 ∷ x2 ∷ x3 ∷ x4 ∷ x5 ∷ x6 ∷ x7 ∷ x8 ∷ x9 ∷ l) P e f = absurd (omega arith)

run_free : (kind : Kind) (e : Controller) → any_busy e.drives ≡ false → run_of kind e ≡ ran_of kind e
unfolding run_of
run_free kind e b = rw b

run_busy : (kind : Kind) (e : Controller) → any_busy e.drives ≡ true → heeds_of kind ≡ false
    → run_of kind e ≡ said_of 0x80 e
unfolding run_of
run_busy kind e b h = rw (b, h)

begun_by : (c : Controller) (l : List ℕ) (order : Order) → BegunOrder c (started_of order (held_of c Idle l 0)) order
unfolding started_of with_phase idled_of
begun_by c l order = record {
  starts = refl;
  bytes = refl;
  else = record { registers = refl; drives = refl; fifo = refl };
}

refuses_by : (c : Controller) (l : List ℕ) → Refuses c (said_of 0x80 (held_of c Idle l 0))
unfolding said_of answered_of
refuses_by c l = record {
  says = record { waits = refl; count = refl; bytes = refl };
  none = refl;
  else = record { registers = refl; drives = refl; fifo = refl };
}

-- bytes that later ones leave alone
set_later : (bs : List ℕ) (k n : ℕ) (l : List ℕ) → k < n → get_or (set_all l n bs) k 0 ≡ get_or l k 0
set_later [] k n l h = refl
set_later (y ∷ bs) k n l h =
    set_later bs k (n + 1) (set l n y) (omega arith) ∙ get_or-set_other l n k y 0 (λ e. omega arith)

-- the two bytes after the code
second_byte : (c : Controller) (r : Ready c) (code byte : ℕ) (rest : List ℕ)
    → get_or (set_all (replicate 9 0) 0 (code ∷ byte ∷ rest)) 1 0 ≡ byte
second_byte c r code byte rest =
    nine (replicate 9 0) (λ (l : List ℕ). get_or (set_all l 0 (code ∷ byte ∷ rest)) 1 0 ≡ byte) refl
    (λ x0 x1 x2 x3 x4 x5 x6 x7 x8. set_later rest 1 2 _ (omega arith))

third_byte : (c : Controller) (r : Ready c) (code byte byte' : ℕ) (rest : List ℕ)
    → get_or (set_all (replicate 9 0) 0 (code ∷ byte ∷ byte' ∷ rest)) 2 0 ≡ byte'
third_byte c r code byte byte' rest =
    nine (replicate 9 0) (λ (l : List ℕ). get_or (set_all l 0 (code ∷ byte ∷ byte' ∷ rest)) 2 0 ≡ byte') refl
    (λ x0 x1 x2 x3 x4 x5 x6 x7 x8. set_later rest 2 3 _ (omega arith))

bit_on : (part x byte : ℕ) → x ≡ byte → (eqb (x / part % 2) 1 ≡ true) ↔ (byte / part % 2 ≡ 1)
bit_on part x byte e = (
  λ t. ap (λ (y : ℕ). y / part % 2) (sym e) ∙ eqb-true (x / part % 2) 1 t,
  λ t. eq-eqb (x / part % 2) 1 (ap (λ (y : ℕ). y / part % 2) e ∙ t),
)

seeks_not : (e : Controller) → (drive_at (command_byte 1 e % 4) e.drives).busy ≡ true → run_of Seek e ≡ said_of 0x80 e
unfolding run_of ran_of sought_of
seeks_not e b = simp (and-false, b)

recalibrates_not : (e : Controller) → (drive_at (command_byte 1 e % 4) e.drives).busy ≡ true
    → run_of Recalibrate e ≡ said_of 0x80 e
unfolding run_of ran_of recalibrated_of
recalibrates_not e b = simp (and-false, b)

seeks_free : (e : Controller) → (drive_at (command_byte 1 e % 4) e.drives).busy ≡ false
    → run_of Seek e
    ≡ idled_of (with_drive (command_byte 1 e % 4)
    (seek_of (command_byte 2 e) (step_time e) (drive_at (command_byte 1 e % 4) e.drives)) e)
unfolding run_of ran_of sought_of
seeks_free e b = simp (and-false, b)

recalibrates_free : (e : Controller) → (drive_at (command_byte 1 e % 4) e.drives).busy ≡ false
    → run_of Recalibrate e
    ≡ idled_of (with_drive (command_byte 1 e % 4)
    (recalibrate_of (command_byte 1 e % 4) (step_time e) (drive_at (command_byte 1 e % 4) e.drives)) e)
unfolding run_of ran_of recalibrated_of
recalibrates_free e b = simp (and-false, b)

-- one drive of the four gets its order
moves_by : (c : Controller) (r : Ready c) (l : List ℕ) (k : ℕ) → k < 4 → (motion : Motion)
    → Moves c (idled_of (with_drive k (accepted motion (drive_at k c.drives)) (held_of c Idle l 0))) k motion
unfolding idled_of with_drive with_drives
moves_by c r l k h motion = record {
  idle = refl;
  bytes = refl;
  drive = get_or-set_same c.drives k _ _ (omega (arith, r.four));
  others = λ j n. get_or-set_other c.drives k j _ _ n;
  registers = refl;
  fifo = refl;
}

abbrev move_of : ℕ → ℕ → ℕ → ℕ → ℕ → ℕ → Pass → Bool → Bool → Bool → Order
move_of unit cc hh rr nn eot pass deleted mt sk =
    record {
      drive = unit % 4;
      side = unit / 4 % 2;
      job =
          Move (record { pass = pass; deleted = deleted; mt = mt; sk = sk; eot = eot; dtl = 0 })
          (record { c = cc; h = hh; r = rr; n = nn });
    }

module _ (c : Controller) (r : Ready c) (n : NoneBusy c) where
  -- a data command, Read ID or Format
  begins : (code : ℕ) (rest : List ℕ) (kind : Kind) (order : Order) → kind_of code ≡ kind
      → suc (length rest) ≡ byte_count kind
      → ran_of kind (whole c r (code ∷ rest)) ≡ started_of order (whole c r (code ∷ rest))
      → BegunOrder c (after_bytes (code ∷ rest) c) order
  begins code rest kind order k e o =
      rw (completes c r code rest kind k e ∙ run_free kind _ (none_busy c.drives n) ∙ o) (begun_by c _ order)

  moves : (code unit cc hh rr nn eot gpl dtl : ℕ) (kind : Kind) (pass : Pass) (deleted mt sk : Bool)
      → kind_of code ≡ kind → 9 ≡ byte_count kind
      → ((e : Controller) → ran_of kind e ≡ started_of (move_order e.bytes.command pass deleted) e)
      → mt_of code ≡ mt → sk_of code ≡ sk
      → BegunOrder c (after_bytes (code ∷ unit ∷ cc ∷ hh ∷ rr ∷ nn ∷ eot ∷ gpl ∷ dtl ∷ []) c)
      (move_of unit cc hh rr nn eot pass deleted mt sk)
  unfolding move_order
  moves code unit cc hh rr nn eot gpl dtl kind pass deleted mt sk k b o m s =
      let rest = unit ∷ cc ∷ hh ∷ rr ∷ nn ∷ eot ∷ gpl ∷ dtl ∷ [] in
      begins code rest kind _ k b
      (o (whole c r (code ∷ rest))
      ∙ ap (λ (x : Order). started_of x (whole c r (code ∷ rest)))
      (nine (replicate 9 0)
      (λ (l : List ℕ). move_order (set_all l 0 (code ∷ rest)) pass deleted
      ≡ move_of unit cc hh rr nn eot pass deleted mt sk)
      refl
      (λ x0 x1 x2 x3 x4 x5 x6 x7 x8. λ i. move_of unit cc hh rr nn eot pass deleted (m i) (s i))))

  formats : (unit nn sc gpl d : ℕ)
      → BegunOrder c (after_bytes (0x4D ∷ unit ∷ nn ∷ sc ∷ gpl ∷ d ∷ []) c)
      (record { drive = unit % 4; side = unit / 4 % 2; job = job.Format (record { n = nn; sc = sc; fill = d }) })
  unfolding kind_of ran_of format_order
  formats unit nn sc gpl d =
      let rest = unit ∷ nn ∷ sc ∷ gpl ∷ d ∷ [] in
      begins 0x4D rest Format _ refl refl
      (ap (λ (x : Order). started_of x (whole c r (0x4D ∷ rest)))
      (nine (replicate 9 0)
      (λ (l : List ℕ). format_order (set_all l 0 (0x4D ∷ rest))
      ≡ record { drive = unit % 4; side = unit / 4 % 2; job = job.Format (record { n = nn; sc = sc; fill = d }) })
      refl (λ x0 x1 x2 x3 x4 x5 x6 x7 x8. refl)))

  identifies : (unit : ℕ)
      → BegunOrder c (after_bytes (0x4A ∷ unit ∷ []) c)
      (record { drive = unit % 4; side = unit / 4 % 2; job = Identify })
  unfolding kind_of ran_of identify_order
  identifies unit =
      begins 0x4A (unit ∷ []) ReadId _ refl refl
      (ap (λ (x : Order). started_of x (whole c r (0x4A ∷ unit ∷ [])))
      (nine (replicate 9 0)
      (λ (l : List ℕ). identify_order (set_all l 0 (0x4A ∷ unit ∷ []))
      ≡ record { drive = unit % 4; side = unit / 4 % 2; job = Identify })
      refl (λ x0 x1 x2 x3 x4 x5 x6 x7 x8. refl)))

  senses : (unit : ℕ)
      → ((after_bytes (0x04 ∷ unit ∷ []) c).phase ≡ Sensing (unit % 8)) × SameElse c (after_bytes (0x04 ∷ unit ∷ []) c)
  unfolding kind_of ran_of sensing_of with_phase idled_of
  senses unit =
      rw (completes c r 0x04 (unit ∷ []) SenseDrive refl refl ∙ run_free SenseDrive _ (none_busy c.drives n)) (
        ap (λ (x : ℕ). Sensing (x % 8)) (second_byte c r 0x04 unit []),
        record { registers = refl; drives = refl; fifo = refl },
      )

  specifies : (first second : ℕ) → Specified c (after_bytes (0x03 ∷ first ∷ second ∷ []) c) first second
  unfolding kind_of ran_of specify_of with_registers idled_of
  specifies first second =
      rw (
      completes c r 0x03 (first ∷ second ∷ []) Specify refl refl ∙ run_free Specify _ (none_busy c.drives n)
      ) (record {
        over = record {
          idle = refl;
          bytes = refl;
          drives = refl;
          fifo = refl;
          dor = refl;
          tdr = refl;
          rate = refl;
        };
        spec1 = second_byte c r 0x03 first (second ∷ []);
        spec2 = third_byte c r 0x03 first second [];
        eis = refl;
        efifo = refl;
        poll = refl;
        fifothr = refl;
        pretrk = refl;
      })

  configures : (gap byte track : ℕ) → c.fifo ≡ emptied → Configured c (after_bytes (0x13 ∷ gap ∷ byte ∷ track ∷ []) c) byte track
  unfolding kind_of ran_of configure_of with_registers with_fifo idled_of
  configures gap byte track none_held =
      let second : get_or (set_all (replicate 9 0) 0 (0x13 ∷ gap ∷ byte ∷ track ∷ [])) 2 0
      ≡ byte =
      nine (replicate 9 0)
      (λ (l : List ℕ). get_or (set_all l 0 (0x13 ∷ gap ∷ byte ∷ track ∷ [])) 2 0 ≡ byte)
      refl (λ x0 x1 x2 x3 x4 x5 x6 x7 x8. refl) in
      rw (
      completes c r 0x13 (gap ∷ byte ∷ track ∷ []) Configure refl refl
      ∙ run_free Configure _ (none_busy c.drives n)
      ) (record {
        over = record {
          idle = refl;
          bytes = refl;
          drives = refl;
          fifo = sym none_held;
          dor = refl;
          tdr = refl;
          rate = refl;
        };
        spec1 = refl;
        spec2 = refl;
        eis = bit_on 64 _ byte second;
        efifo = bit_on 32 _ byte second;
        poll = bit_on 16 _ byte second;
        fifothr = ap (λ (x : ℕ). x % 16) second;
        pretrk =
            nine (replicate 9 0)
            (λ (l : List ℕ). get_or (set_all l 0 (0x13 ∷ gap ∷ byte ∷ track ∷ [])) 3 0 ≡ track)
            refl (λ x0 x1 x2 x3 x4 x5 x6 x7 x8. refl);
      })

pub accepts : (c : Controller) → Accepts c
unfolding kind_of ran_of
accepts c = record {
  read = reads_by;
  write = writes_by;
  format = λ unit nn sc gpl d r n. formats c r n unit nn sc gpl d;
  read_id = λ unit r n. identifies c r n unit;
  sense_drive = λ unit r n. senses c r n unit;
  seek = λ unit ncn r b.
      let rest = unit ∷ ncn ∷ [] in
      let e = whole c r (0x0F ∷ rest) in
      let k : command_byte 1 e ≡ unit = second_byte c r 0x0F unit (ncn ∷ []) in
      let t : command_byte 2 e ≡ ncn = third_byte c r 0x0F unit ncn [] in
      let free : (drive_at (command_byte 1 e % 4) c.drives).busy ≡ false = rw k b in
      rw (completes c r 0x0F rest Seek refl refl ∙ seeks_free e free, k, t) (moves_by c r _ (unit % 4) (omega arith) _);
  recalibrate = λ unit r b.
      let e = whole c r (0x07 ∷ unit ∷ []) in
      let k : command_byte 1 e ≡ unit = second_byte c r 0x07 unit [] in
      let free : (drive_at (command_byte 1 e % 4) c.drives).busy ≡ false = rw k b in
      rw (completes c r 0x07 (unit ∷ []) Recalibrate refl refl ∙ recalibrates_free e free, k)
      (moves_by c r _ (unit % 4) (omega arith) _);
}
  where
    reads_by : (deleted mt sk : Bool) (unit cc hh rr nn eot gpl dtl : ℕ) → Ready c → NoneBusy c
        → BegunOrder c (after_bytes (read_code deleted mt sk ∷ unit ∷ cc ∷ hh ∷ rr ∷ nn ∷ eot ∷ gpl ∷ dtl ∷ []) c)
        (move_of unit cc hh rr nn eot Read deleted mt sk)
    reads_by false false false u cc h rr n e g d r b =
        moves c r b 0x46 u cc h rr n e g d ReadData Read false false false refl refl (λ e. refl) refl refl
    reads_by false false true u cc h rr n e g d r b =
        moves c r b 0x66 u cc h rr n e g d ReadData Read false false true refl refl (λ e. refl) refl refl
    reads_by false true false u cc h rr n e g d r b =
        moves c r b 0xC6 u cc h rr n e g d ReadData Read false true false refl refl (λ e. refl) refl refl
    reads_by false true true u cc h rr n e g d r b =
        moves c r b 0xE6 u cc h rr n e g d ReadData Read false true true refl refl (λ e. refl) refl refl
    reads_by true false false u cc h rr n e g d r b =
        moves c r b 0x4C u cc h rr n e g d ReadDeleted Read true false false refl refl (λ e. refl) refl refl
    reads_by true false true u cc h rr n e g d r b =
        moves c r b 0x6C u cc h rr n e g d ReadDeleted Read true false true refl refl (λ e. refl) refl refl
    reads_by true true false u cc h rr n e g d r b =
        moves c r b 0xCC u cc h rr n e g d ReadDeleted Read true true false refl refl (λ e. refl) refl refl
    reads_by true true true u cc h rr n e g d r b =
        moves c r b 0xEC u cc h rr n e g d ReadDeleted Read true true true refl refl (λ e. refl) refl refl

    writes_by : (deleted mt : Bool) (unit cc hh rr nn eot gpl dtl : ℕ) → Ready c → NoneBusy c
        → BegunOrder c (after_bytes (write_code deleted mt ∷ unit ∷ cc ∷ hh ∷ rr ∷ nn ∷ eot ∷ gpl ∷ dtl ∷ []) c)
        (move_of unit cc hh rr nn eot Write deleted mt false)
    writes_by false false u cc h rr n e g d r b =
        moves c r b 0x45 u cc h rr n e g d WriteData Write false false false refl refl (λ e. refl) refl refl
    writes_by false true u cc h rr n e g d r b =
        moves c r b 0xC5 u cc h rr n e g d WriteData Write false true false refl refl (λ e. refl) refl refl
    writes_by true false u cc h rr n e g d r b =
        moves c r b 0x49 u cc h rr n e g d WriteDeleted Write true false false refl refl (λ e. refl) refl refl
    writes_by true true u cc h rr n e g d r b =
        moves c r b 0xC9 u cc h rr n e g d WriteDeleted Write true true false refl refl (λ e. refl) refl refl

-- the codes that are heeded while a drive is busy
record Heedless (kind : Kind) : Type 0 where
  no : heeds_of kind ≡ false

skips : (t : Bool) (kind rest : Kind) → (t ≡ true → heeds_of kind ≡ false) → Heedless rest → Heedless (cond t kind rest)
skips true kind rest e f = record { no = e refl }
skips false kind rest e f = f

heedless : (code : ℕ) → (code ≡ 0x0F → ⊥) → (code ≡ 0x07 → ⊥) → (code ≡ 0x08 → ⊥) → Heedless (kind_of code)
unfolding kind_of
heedless code s r i =
    skips (eqb code 0x46 || eqb code 0x66 || eqb code 0xC6 || eqb code 0xE6) ReadData _ (λ t. refl)
    (skips (eqb code 0x4C || eqb code 0x6C || eqb code 0xCC || eqb code 0xEC) ReadDeleted _ (λ t. refl)
    (skips (eqb code 0x45 || eqb code 0xC5) WriteData _ (λ t. refl)
    (skips (eqb code 0x49 || eqb code 0xC9) WriteDeleted _ (λ t. refl)
    (skips (eqb code 0x4A) ReadId _ (λ t. refl)
    (skips (eqb code 0x4D) Format _ (λ t. refl)
    (skips (eqb code 0x07) Recalibrate _ (λ t. absurd (r (eqb-true code 0x07 t)))
    (skips (eqb code 0x08) SenseInterrupt _ (λ t. absurd (i (eqb-true code 0x08 t)))
    (skips (eqb code 0x03) Specify _ (λ t. refl)
    (skips (eqb code 0x04) SenseDrive _ (λ t. refl)
    (skips (eqb code 0x0F) Seek _ (λ t. absurd (s (eqb-true code 0x0F t)))
    (skips (eqb code 0x10) Version _ (λ t. refl)
    (skips (eqb code 0x13) Configure Unknown (λ t. refl) (record { no = refl })))))))))))))

pub busy_rule : (c : Controller) → BusyRule c
unfolding kind_of
busy_rule c = record {
  all_but = λ code rest k r h b s q i e.
      rw (
      complete c r code rest e
      ∙ run_busy (kind_of code) _ (one_busy c.drives k h b) (heedless code s q i).no
      ) (refuses_by c _);
  seek = λ unit ncn r b.
      rw (
      completes c r 0x0F (unit ∷ ncn ∷ []) Seek refl refl
      ∙ seeks_not (whole c r (0x0F ∷ unit ∷ ncn ∷ []))
      (rw (second_byte c r 0x0F unit (ncn ∷ [])) b)
      ) (refuses_by c _);
  recalibrate = λ unit r b.
      rw (
      completes c r 0x07 (unit ∷ []) Recalibrate refl refl
      ∙ recalibrates_not (whole c r (0x07 ∷ unit ∷ [])) (rw (second_byte c r 0x07 unit []) b)
      ) (refuses_by c _);
}

pub settings : (c : Controller) → Settings c
settings c = record {
  specify = λ first second r n. specifies c r n first second;
  configure = λ gap byte track r n e. configures c r n gap byte track e;
}

pub waits_ready : WaitsReady
waits_ready c w = (
  record {
    undamaged = real_undamaged c w.real;
    free = w.free;
    idle = w.idle;
    room = (fit_real c w.real).room;
    four = (quiet_real c w.real).good.drives.long;
  },
  none_held c w,
)
