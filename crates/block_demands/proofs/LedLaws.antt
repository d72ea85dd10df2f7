-- Calls that are handed no record at work and leave both images as they were (02 2026-01): what comes before and
-- behind the data command.
-- Assumes nothing.
use Prim.Native.Nat.{ℕ, ◌/◌}
use native.Mathlib.Omega.{arith}
use mathlib.Core.Bool.{Bool, true, false, true≢false}
use mathlib.Core.List.{List, [], ◌∷◌, ◌++◌}
use mathlib.Core.Path.{◌≡◌, refl, sym, ap, ◌∙◌}
use lib.Dec.{eqb}
use Rattle.image.proofs.TestLaws.{by_test}
use Rattle.fdc.specs.declared.answer.Answer.{Answer}
use Rattle.fdc.specs.declared.record.Controller.{Controller}
use Rattle.fdc.specs.declared.record.Phase.{Phase}
use Rattle.fdc.specs.declared.record.Phase.TheVariants.{Idle, Gathering, Starting, Working, Sensing, Answering}
use Rattle.fdc.specs.Answer.{answer_of}
use Rattle.fdc.specs.Calls.{port_of, read_reg, write_reg, read_port, write_port}
use Rattle.fdc.specs.Data.{read_in, read_fifo, offered_of, write_fifo}
use Rattle.fdc.specs.Record.{valid_of, with_fifo}
use Rattle.fdc.specs.Registers.{msr_of}
use Rattle.reached.specs.Moves.{tick_one}
use Rattle.reached.specs.Runs.{Call, powers, reads, writes, takes, gives, ticks, notes, answer_to, after, run_calls}
use Rattle.demands.specs.Quiet.{Quiet}
use Rattle.demands.specs.Work.{AllOfBytes, at_work}
use Rattle.demands.proofs.QuietLaws.{quiet_run}
use Rattle.block.specs.Box.{Box, with_record}
use Rattle.block_demands.specs.Made.{HandedBoth, box_by, box_after, AllHanded, Made, Rests}
use Rattle.block_demands.proofs.MadeLaws.{bytes_join, run_join, rests_join, after_record, made_none, made_join}

-- none of the calls is a tick
abbrev pub Tickless : List Call → Type 0
Tickless [] = Unit {0}
Tickless (call ∷ calls) = (tick_one call ≡ 0) × Tickless calls

-- from one record to another by such calls
pub record Does (c e : Controller) : Type 0 where
  pub calls : List Call
  pub bytes : AllOfBytes calls
  pub tickless : Tickless calls
  pub rests : Rests calls c
  pub leads : run_calls calls c ≡ e

-- from one box to another
pub record Led (s t : Box) : Type 0 where
  pub made : Made s t
  pub rests : Rests made.calls s.controller
  pub first : t.first ≡ s.first
  pub second : t.second ≡ s.second

tickless_join : (xs ys : List Call) → Tickless xs → Tickless ys → Tickless (xs ++ ys)
tickless_join [] ys p q = q
tickless_join (x ∷ xs) ys p q = (p.0, tickless_join xs ys p.1 q)

pub does_join : {c d e : Controller} → Does c d → Does d e → Does c e
does_join {c} m n = record {
  calls = m.calls ++ n.calls;
  bytes = bytes_join m.calls n.calls m.bytes n.bytes;
  tickless = tickless_join m.calls n.calls m.tickless n.tickless;
  rests = rests_join m.calls n.calls c m.rests (rw m.leads n.rests);
  leads = run_join m.calls n.calls c ∙ ap (run_calls n.calls) m.leads ∙ n.leads;
}

-- a call that is no tick leaves the images, and is handed none
tickless_box : (call : Call) (s : Box) → tick_one call ≡ 0 → box_by call s ≡ with_record (after call s.controller) s
tickless_box (powers head0 head1) s z = refl
tickless_box (reads offset) s z = refl
tickless_box (writes offset byte) s z = refl
tickless_box (takes tc) s z = refl
tickless_box (gives byte tc) s z = refl
tickless_box (ticks a b) s z = absurd (omega arith)
tickless_box (notes drive) s z = refl

tickless_handed : (call : Call) (s : Box) → tick_one call ≡ 0 → HandedBoth s call
tickless_handed (powers head0 head1) s z = tt
tickless_handed (reads offset) s z = tt
tickless_handed (writes offset byte) s z = tt
tickless_handed (takes tc) s z = tt
tickless_handed (gives byte tc) s z = tt
tickless_handed (ticks a b) s z = absurd (omega arith)
tickless_handed (notes drive) s z = tt

pub all_boxes : (calls : List Call) (s : Box) → Tickless calls
    → box_after calls s ≡ with_record (run_calls calls s.controller) s
unfolding box_after run_calls
all_boxes [] s p = refl
all_boxes (call ∷ calls) s p =
    ap (box_after calls) (tickless_box call s p.0)
    ∙ all_boxes calls (with_record (after call s.controller) s) p.1

pub all_handed : (calls : List Call) (s : Box) → Tickless calls → AllHanded calls s
unfolding AllHanded
all_handed [] s p = tt
all_handed (call ∷ calls) s p =
    (tickless_handed call s p.0, rw (tickless_box call s p.0) (all_handed calls _ p.1))

-- calls that are no ticks make a box of the record that they lead to
unfoldable pub tickless_made : (calls : List Call) (s : Box) (e : Controller) → AllOfBytes calls → Tickless calls
    → run_calls calls s.controller ≡ e → Made s (with_record e s)
tickless_made calls s e b p q = record {
  calls = calls;
  bytes = b;
  handed = all_handed calls s p;
  leads = all_boxes calls s p ∙ ap (λ (x : Controller). with_record x s) q;
}

pub does_led : (s : Box) {e : Controller} → Does s.controller e → Led s (with_record e s)
unfolding tickless_made
does_led s {e} d = record {
  made = tickless_made d.calls s e d.bytes d.tickless d.leads;
  rests = d.rests;
  first = refl;
  second = refl;
}

pub led_none : (s : Box) → Led s s
unfolding Rests made_none
led_none s = record { made = made_none s; rests = tt; first = refl; second = refl }

-- the record that the calls of a box lead to
pub made_runs : {s t : Box} (m : Made s t) → run_calls m.calls s.controller ≡ t.controller
made_runs {s} m = sym (after_record m.calls s) ∙ ap (λ (x : Box). x.controller) m.leads

pub led_join : {s t u : Box} → Led s t → Led t u → Led s u
unfolding made_join
led_join {s} m n = record {
  made = made_join m.made n.made;
  rests =
      rests_join m.made.calls n.made.calls s.controller m.rests
      (rw (made_runs m.made) n.rests);
  first = n.first ∙ m.first;
  second = n.second ∙ m.second;
}

pub does_quiet : {c e : Controller} → Does c e → Quiet c → Quiet e
does_quiet {c} d q = rw d.leads at (quiet_run d.calls c d.bytes q)

-- a byte from or to the FIFO
abbrev pub AtFifo : Call → Type 0
AtFifo (powers head0 head1) = ⊥
AtFifo (reads offset) = offset ≡ 5
AtFifo (writes offset byte) = offset ≡ 5
AtFifo (takes tc) = ⊥
AtFifo (gives byte tc) = ⊥
AtFifo (ticks a b) = ⊥
AtFifo (notes drive) = ⊥

abbrev pub AllAtFifo : List Call → Type 0
AllAtFifo [] = Unit {0}
AllAtFifo (call ∷ calls) = AtFifo call × AllAtFifo calls

abbrev Works : Answer → Type 0
Works a = at_work a.controller.phase ≡ true

-- it ends no command at work
read_works : (p : Phase) (c : Controller) → c.phase ≡ p → at_work p ≡ true → Works (read_in p c)
unfolding read_in answer_of with_fifo
read_works Idle c e w = absurd (true≢false (sym w))
read_works (Gathering entry) c e w = absurd (true≢false (sym w))
read_works (Starting order) c e w = ap at_work e
read_works (Working work) c e w = ap at_work e
read_works (Sensing unit) c e w = absurd (true≢false (sym w))
read_works (Answering loud) c e w = absurd (true≢false (sym w))

write_works : (p : Phase) (byte : ℕ) (c : Controller) → c.phase ≡ p → at_work p ≡ true
    → at_work (offered_of p byte c).phase ≡ true
unfolding offered_of with_fifo
write_works Idle byte c e w = absurd (true≢false (sym w))
write_works (Gathering entry) byte c e w = absurd (true≢false (sym w))
write_works (Starting order) byte c e w = ap at_work e
write_works (Working work) byte c e w = ap at_work e
write_works (Sensing unit) byte c e w = absurd (true≢false (sym w))
write_works (Answering loud) byte c e w = absurd (true≢false (sym w))

fifo_reads : (c : Controller) → at_work c.phase ≡ true → Works (answer_to (reads 5) c)
unfolding answer_to read_port port_of read_reg read_fifo answer_of
fifo_reads c w =
    by_test (valid_of c) Works _ _
    (λ _. by_test (eqb (msr_of c / 64) 3) Works _ _ (λ _. read_works c.phase c refl w) (λ _. w)) (λ _. w)

fifo_writes : (byte : ℕ) (c : Controller) → at_work c.phase ≡ true → Works (answer_to (writes 5 byte) c)
unfolding answer_to write_port port_of write_reg write_fifo answer_of
fifo_writes byte c w =
    by_test (valid_of c) Works _ _
    (λ _. by_test (eqb (msr_of c / 64) 2) Works _ _ (λ _. write_works c.phase byte c refl w) (λ _. w)) (λ _. w)

fifo_works : (call : Call) (c : Controller) → AtFifo call → at_work c.phase ≡ true → Works (answer_to call c)
fifo_works (powers head0 head1) c f w = absurd f
fifo_works (reads offset) c f w = rw f (fifo_reads c w)
fifo_works (writes offset byte) c f w = rw f (fifo_writes byte c w)
fifo_works (takes tc) c f w = absurd f
fifo_works (gives byte tc) c f w = absurd f
fifo_works (ticks a b) c f w = absurd f
fifo_works (notes drive) c f w = absurd f

-- so none was at work that is not at the end
pub fifo_rests : (calls : List Call) (c : Controller) → AllAtFifo calls → at_work (run_calls calls c).phase ≡ false
    → Rests calls c × (at_work c.phase ≡ false)
unfolding Rests run_calls
fifo_rests [] c f e = (tt, e)
fifo_rests (call ∷ calls) c f e =
    let (rests, later) = fifo_rests calls (after call c) f.1 e in
    let now = go (at_work c.phase) refl later in
    ((now, rests), now)
  where
    go : (t : Bool) → at_work c.phase ≡ t → at_work (after call c).phase ≡ false → at_work c.phase ≡ false
    go true w l = absurd (true≢false (sym (fifo_works call c f.0 w) ∙ l))
    go false w l = w

fifo_tickless : (calls : List Call) → AllAtFifo calls → Tickless calls
fifo_tickless [] f = tt
fifo_tickless (powers head0 head1 ∷ calls) f = absurd f.0
fifo_tickless (reads offset ∷ calls) f = (refl, fifo_tickless calls f.1)
fifo_tickless (writes offset byte ∷ calls) f = (refl, fifo_tickless calls f.1)
fifo_tickless (takes tc ∷ calls) f = absurd f.0
fifo_tickless (gives byte tc ∷ calls) f = absurd f.0
fifo_tickless (ticks a b ∷ calls) f = absurd f.0
fifo_tickless (notes drive ∷ calls) f = absurd f.0

pub fifo_does : (calls : List Call) (c e : Controller) → AllOfBytes calls → AllAtFifo calls → run_calls calls c ≡ e
    → at_work e.phase ≡ false → Does c e
fifo_does calls c e b f l w = record {
  calls = calls;
  bytes = b;
  tickless = fifo_tickless calls f;
  rests = (fifo_rests calls c f (ap (λ (x : Controller). at_work x.phase) l ∙ w)).0;
  leads = l;
}
