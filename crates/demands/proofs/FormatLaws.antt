-- The script of a Format (specs/FormatScript), over every list of its calls: each tick at work makes the script's next
-- store, waits, or ends; no other call stores.
-- Assumes nothing.
use Rattle.std.specs.Prelude.{None, Some}
use Rattle.image.specs.Lent.{put_at}
use Prim.Native.Nat.{ℕ, ◌+◌, ◌*◌, ◌%◌, ◌≤◌, ◌<◌}
use native.Mathlib.Nat.{mod-eq_of_lt}
use native.Mathlib.Omega.{arith}
use mathlib.Core.Bool.{Bool, true, false, ◌&&◌, ◌||◌, and-false, true≢false, false≢true}
use mathlib.Core.List.{List, [], ◌∷◌, ◌++◌}
use mathlib.Core.Logic.{◌⊎◌, inl, inr}
use mathlib.Core.Path.{◌≡◌, refl, sym, ap, ◌∙◌, subst}
use lib.ListN.{length, get_or, set, take}
use lib.Seq.{take-length}
use borrow.Author.Tests.{eq-eqb, ne_eqb}
use Rattle.image.proofs.DiskLaws.{present_fits}
use Rattle.image.proofs.TestLaws.{by_test}
use Rattle.image.specs.Disk.{Disk}
use Rattle.image.specs.declared.layout.Geometry.{Geometry}
use Rattle.image.specs.Disk.{disk_in}
use Rattle.image.specs.Layout.{size_of, offset_of}
use Rattle.image.specs.Lent.{pick_of, stored_in, stored_as}
use Rattle.chip.specs.declared.fifo.Fifo.{Fifo}
use Rattle.chip.specs.Fifo.{full_of, held, front_of, emptied, opened_of, given_of, drawn_of}
use Rattle.chip.specs.Fifo.{FitsFifo}
use Rattle.sectors.specs.declared.order.Job.TheVariants.{Format}
use Rattle.sectors.specs.declared.order.Order.{Order}
use Rattle.sectors.specs.declared.order.Plan.{Plan}
use Rattle.sectors.specs.declared.work.Form.{Form}
use Rattle.sectors.specs.declared.work.Form.TheVariants.{Awaiting, Addressing, Filling, Clearing}
use Rattle.sectors.specs.declared.work.Site.{Site}
use Rattle.sectors.specs.declared.work.Step.{Step}
use Rattle.sectors.specs.declared.work.Then.{Then}
use Rattle.sectors.specs.declared.work.Then.TheVariants.{Ends, Works}
use Rattle.sectors.specs.declared.work.Verdict.{Verdict}
use Rattle.sectors.specs.declared.work.Work.{Work}
use Rattle.sectors.specs.declared.work.Work.TheVariants.{Formatting}
use Rattle.sectors.specs.Result.{end_of}
use Rattle.sectors.specs.Track.{stays_of, mark_place, data_place}
use Rattle.engine.specs.First.{misplanned, begin_of}
use Rattle.engine.specs.Format.{done_of, format_end}
use Rattle.engine.specs.Step.{lost_of, work_step, go_on_of}
use Rattle.fdc.specs.declared.record.Controller.{Controller}
use Rattle.fdc.specs.declared.record.Phase.{Phase}
use Rattle.fdc.specs.declared.record.Phase.TheVariants.{Starting, Working, Answering}
use Rattle.fdc.specs.declared.ticks.Decision.{Decision}
use Rattle.fdc.specs.Answer.{answer_of}
use Rattle.fdc.specs.Commands.{answered_of}
use Rattle.fdc.specs.Data.{phase_hears}
use Rattle.reached.specs.Good.{Suits}
use Rattle.fdc.specs.Record.{drive_at, with_fifo, with_phase}
use Rattle.fdc.specs.Registers.{motor_in}
use Rattle.reached.specs.Runs.{Call, powers, reads, writes, takes, gives, ticks, notes, answer_to, after, run_calls}
use Rattle.fdc.specs.Ticks.{seen_of, settled_of, decided_of, ruled_of, tick_of, image_after}
use Rattle.demands.specs.Acknowledged.{result_byte, result_id}
use Rattle.demands.specs.FormatScript.{Stored, applied, slot_draws, slot_stores, script_of, counted_by, stores_by, stores_of, Allowed, LeftByStores, RanOut, FormatSays, FormattedBy, FormatScript}
use Rattle.demands.specs.History.{History, no_history, noted_store, history_by, history_of}
use Rattle.demands.specs.PowerCut.{head_of}
use Rattle.demands.specs.Quiet.{Quiet}
use Rattle.demands.specs.Work.{at_work, Its, image_by, image_left, Handed, Alone, Real}
use Rattle.demands.proofs.CallLaws.{tick_starts, tick_works, call_rule}
use Rattle.demands.proofs.CallRules.{NoTick, FifoRule, same, took, gave, Keeps, CallRule, cut_off, goes_on_lem}
use Rattle.demands.proofs.SplitLaws.{tick_or_not, image_same}
use Rattle.demands.proofs.FifoStream.{Open, Stream, open_opened, open_given, open_drawn, stream_fresh, stream_within, held_given, held_drawn, held_more, held_none}
use Rattle.demands.proofs.FormatRules.{present_same, absent≢present, form_verdict, FirstRule, nothing_there, is_protected, is_misplanned, opens, first_rule, ClearRule, clears_on, is_whole, FormRule, late_first, late_later, waits, begins, addresses, addresses_last, fills, marks, marks_last, clears, form_rule}
use Rattle.demands.proofs.PowerCutLaws.{idle≢answering}
use Rattle.demands.proofs.QuietLaws.{quiet_real, quiet_after}
use Rattle.demands.proofs.TickRules.{ends_with}
use Rattle.demands.proofs.ScriptLaws.{applied_append, so_far, place_of, drawn_in, InScript, script_length, so_far_take, so_far_addresses, so_far_addressed, so_far_fills, so_far_marks, so_far_clears, so_far_turns, so_far_grown, place_inside, script_some, stage_done, Fed, fed_none, fed_grown, Needs, fed_on}
use Rattle.demands.proofs.LeftLaws.{noted_host}

drawn_tc : (efifo : Bool) (fifothr : ℕ) (f : Fifo) → (drawn_of efifo fifothr f).tc ≡ f.tc
unfolding drawn_of
drawn_tc efifo fifothr f = refl

-- 01 Format: TC is ignored
given_tc : (efifo : Bool) (byte : ℕ) (f : Fifo) → f.tc ≡ false → (given_of efifo false byte f).tc ≡ false
unfolding given_of
given_tc efifo byte f e =
    by_test (full_of efifo f) (λ (x : Fifo). x.tc ≡ false) _ _ (λ t. e) (λ t. ap (λ (x : Bool). x || false) e)

module _ (g : Geometry) (cylinder drive side : ℕ) (plan : Plan) (old : List ℕ) where
  abbrev pub site : Site
  site = record { drive = drive; side = side; disk = g }

  abbrev script : List ℕ → List Stored
  script host = script_of g cylinder side plan host

  abbrev part_of : List ℕ → Form → List Stored
  part_of host form = so_far g cylinder side plan host form

  abbrev place : Form → ℕ
  place form = place_of g cylinder side plan form

  abbrev Inside : Form → Type 0
  Inside form = InScript g cylinder side plan form

  -- m stores are made, and they are the part that the stage has behind it
  pub record Stood (form : Form) (img host : List ℕ) (m : ℕ) : Type 0 where
    pub place_is : m ≡ place form
    pub image : img ≡ applied (part_of host form) old
    pub fed : Fed g cylinder side plan host m

  -- a Format at work
  pub record Busy (efifo : Bool) (form : Form) (fifo : Fifo) (img host : List ℕ) (m : ℕ) : Type 0 where
    pub allowed : Allowed g cylinder side plan
    pub inside : Inside form
    pub stood : Stood form img host m
    pub request : Open efifo fifo
    pub off : fifo.tc ≡ false
    pub stream : Stream host (held fifo) (drawn_in g cylinder side plan form) fifo.tc

  abbrev Left : List ℕ → ℕ → List ℕ → Type 0
  Left host m img = LeftByStores g cylinder drive side plan host m old img

  abbrev Says : List ℕ → ℕ → Verdict → Type 0
  Says host m v = FormatSays g cylinder drive side plan host m v.st0 v.st1 v.st2 v.id

  record OnWork (efifo : Bool) (work : Work) (fifo : Fifo) (img host : List ℕ) (m : ℕ) : Type 0 where
    form : Form
    is : work ≡ Formatting site plan form
    busy : Busy efifo form fifo img host m

  abbrev OnThen : Bool → Then → Fifo → List ℕ → List ℕ → ℕ → Type 0
  OnThen efifo (Ends verdict) fifo img host m = Left host m img × Says host m verdict
  OnThen efifo (Works work) fifo img host m = OnWork efifo work fifo img host m

  abbrev OnStep : Bool → Step → List ℕ → List ℕ → ℕ → Type 0
  OnStep efifo o img host m =
      OnThen efifo o.then o.fifo (stored_in o.effect img) host (counted_by o.effect m)

  busy_left : {efifo : Bool} {form : Form} {fifo : Fifo} {img host : List ℕ} {m : ℕ} → Busy efifo form fifo img host m
      → Left host m img
  busy_left {form = form} {host = host} {m = m} b =
      let st = b.stood in
      record {
        image = st.image ∙ ap (λ (l : List Stored). applied l old)
            (sym (so_far_take g cylinder side plan host form m b.inside st.place_is));
        part = omega (arith, place_inside g cylinder side plan host form b.inside, st.place_is);
        allowed = λ p. b.allowed;
        begun = st.fed.begun;
        fed = st.fed.fed;
      }

  -- one store more
  stood_on : (form form' : Form) (img host : List ℕ) (m at byte : ℕ) → Inside form
      → Needs g cylinder side plan host form
      → place form' ≡ place form + 1
      → part_of host form' ≡ part_of host form ++ (record { at = at; byte = byte } ∷ [])
      → Stood form img host m → Stood form' (set img at byte) host (m + 1)
  stood_on form form' img host m at byte l n p e st =
      record {
        place_is = omega (arith, st.place_is);
        image =
            ap (λ (i : List ℕ). set i at byte) st.image
            ∙ sym (applied_append (part_of host form) (record { at = at; byte = byte } ∷ []) old)
            ∙ ap (λ (s : List Stored). applied s old) (sym e);
        fed = fed_on g cylinder side plan host form m l n st.place_is st.fed;
      }

  -- Ends.

  -- 01 Format: at a failing end slots done are the stage's; ST1 10 with the host's bytes all stored
  fails_says : {efifo : Bool} {form : Form} {fifo : Fifo} {img host : List ℕ} {m : ℕ} → Busy efifo form fifo img host m
      → (st1 : ℕ) → (st1 ≡ 0x10) ⊎ (st1 ≡ 0x01)
      → (st1 ≡ 0x10 → RanOut g cylinder drive side plan host m (done_of form plan))
      → Says host m (form_verdict false st1 (done_of form plan) drive side plan cylinder)
  fails_says {form = form} {host = host} {m = m} b st1 one late =
      let within = place_inside g cylinder side plan host form b.inside in
      let p = b.stood.place_is in
      record {
        st0_is = rw (ne_eqb m (length (script host)) (λ e. omega arith)) refl;
        clean = λ e. absurd (omega arith);
        unclean = λ e. absurd (no_00 one e);
        st2_is = refl;
        address = refl;
        done = rw p (stage_done g cylinder side plan form b.inside);
        begun_left = λ l h. one;
        late = late;
        protected = λ e. absurd (no_02 one e);
        misplanned = λ e. absurd (no_04 one e);
      }
    where
      no_00 : (st1 ≡ 0x10) ⊎ (st1 ≡ 0x01) → st1 ≡ 0x00 → ⊥
      no_00 (inl a) e = omega arith
      no_00 (inr a) e = omega arith

      no_02 : (st1 ≡ 0x10) ⊎ (st1 ≡ 0x01) → st1 ≡ 0x02 → ⊥
      no_02 (inl a) e = omega arith
      no_02 (inr a) e = omega arith

      no_04 : (st1 ≡ 0x10) ⊎ (st1 ≡ 0x01) → st1 ≡ 0x04 → ⊥
      no_04 (inl a) e = omega arith
      no_04 (inr a) e = omega arith

  -- with the last slot's store the script is whole
  whole_ends : (img host : List ℕ) (m : ℕ) → Allowed g cylinder side plan → Stood (Clearing g.slots) img host m
      → Left host m img × Says host m (form_verdict true 0x00 plan.sc drive side plan cylinder)
  whole_ends img host m a st =
      let e : m ≡ length (script host) = st.place_is ∙ sym (script_length g cylinder side plan host) in
      let all : take m (script host) ≡ script host =
      ap (λ (n : ℕ). take n (script host)) e ∙ take-length (script host) in (
        record {
          image = st.image ∙ ap (λ (l : List Stored). applied l old) (sym all);
          part = omega arith;
          allowed = λ p. a;
          begun = st.fed.begun;
          fed = st.fed.fed;
        },
        record {
          st0_is = rw (eq-eqb m (length (script host)) e) refl;
          clean = λ f. refl;
          unclean = λ f. e;
          st2_is = refl;
          address = refl;
          done = record { most = omega arith; whole = omega (arith, st.place_is); next = λ l. absurd (omega arith) };
          begun_left = λ l h. absurd (omega arith);
          late = λ f. absurd (omega arith);
          protected = λ f. absurd (omega arith);
          misplanned = λ f. absurd (omega arith);
        },
      )

  -- A tick, by its rule.
  module _ (efifo : Bool) (fifothr : ℕ) (fifo : Fifo) (img host : List ℕ) (m : ℕ) (fits : FitsFifo efifo fifo) where
    abbrev At : Form → Type 0
    At form = Busy efifo form fifo img host m

    abbrev Gives : Step → Type 0
    Gives o = OnStep efifo o img host m

    late_first_on : (slot wait : ℕ) → At (Awaiting slot wait) → fifo.count ≡ 0
        → Left host m img × Says host m (form_verdict false 0x10 slot drive side plan cylinder)
    late_first_on slot wait b z =
        let within = stream_within host _ _ _ b.off b.stream in
        let none = held_none efifo fifo fits host _ z b.stream in
        let p = b.stood.place_is in
        let out : RanOut g cylinder drive side plan host m slot =
        record { due = b.inside; early = omega arith; none = omega arith } in
        (busy_left b, fails_says b 0x10 (inl refl) (λ e. out))

    late_later_on : (slot k : ℕ) → At (Addressing slot k) → fifo.count ≡ 0
        → Left host m img × Says host m (form_verdict false 0x10 slot drive side plan cylinder)
    late_later_on slot k b z =
        let within = stream_within host _ _ _ b.off b.stream in
        let none = held_none efifo fifo fits host _ z b.stream in
        let p = b.stood.place_is in
        let out : RanOut g cylinder drive side plan host m slot =
        record { due = b.inside.0; early = omega (arith, b.inside.1); none = omega arith } in
        (busy_left b, fails_says b 0x10 (inl refl) (λ e. out))

    -- the host's next byte is the one drawn
    drawn_on : (form form' : Form) (at : ℕ) → At form → 0 < fifo.count → Inside form'
        → Needs g cylinder side plan host form
        → place form' ≡ place form + 1
        → drawn_in g cylinder side plan form' ≡ drawn_in g cylinder side plan form + 1
        → part_of host form'
        ≡ part_of host form ++ (record { at = at; byte = get_or host (drawn_in g cylinder side plan form) 0 } ∷ [])
        → Busy efifo form' (drawn_of efifo fifothr fifo) (set img at (front_of fifo)) host (m + 1)
    drawn_on form form' at b p l n q d e =
        let (f, s) = held_drawn efifo fifo fits host _ fifothr p b.stream in
        record {
          allowed = b.allowed;
          inside = l;
          stood = rw f (stood_on form form' img host m at _ b.inside n q e b.stood);
          request = open_drawn efifo fifothr fifo b.request;
          off = drawn_tc efifo fifothr fifo ∙ b.off;
          stream = rw (d, drawn_tc efifo fifothr fifo) s;
        }

    -- no byte drawn
    store_on : (form form' : Form) (at byte : ℕ) → At form → Inside form' → Needs g cylinder side plan host form
        → place form' ≡ place form + 1
        → drawn_in g cylinder side plan form' ≡ drawn_in g cylinder side plan form
        → part_of host form' ≡ part_of host form ++ (record { at = at; byte = byte } ∷ [])
        → Busy efifo form' fifo (set img at byte) host (m + 1)
    store_on form form' at byte b l n q d e =
        record {
          allowed = b.allowed;
          inside = l;
          stood = stood_on form form' img host m at byte b.inside n q e b.stood;
          request = b.request;
          off = b.off;
          stream = rw d b.stream;
        }

    waits_on : (slot wait : ℕ) → At (Awaiting slot wait) → At (Awaiting slot (wait + 1))
    waits_on slot wait b =
        record {
          allowed = b.allowed;
          inside = b.inside;
          stood = record { place_is = b.stood.place_is; image = b.stood.image; fed = b.stood.fed };
          request = b.request;
          off = b.off;
          stream = b.stream;
        }

    -- the slot behind is formatted, or cleared, and was the last to be formatted or is one after
    clear_on_lem : (form : Form) (slot at byte : ℕ) (o : Step) → At form → Needs g cylinder side plan host form
        → plan.sc ≤ slot + 1 → slot < g.slots → place (Clearing (slot + 1)) ≡ place form + 1
        → drawn_in g cylinder side plan form ≡ plan.sc * slot_draws
        → part_of host (Clearing (slot + 1)) ≡ part_of host form ++ (record { at = at; byte = byte } ∷ [])
        → ClearRule cylinder efifo fifothr site plan fifo slot (Some (put_at at byte)) o → Gives o
    clear_on_lem form slot at byte o b n l h q d e (clears_on k eq) =
        rw eq (record {
          form = Clearing (slot + 1);
          is = refl;
          busy = store_on form (Clearing (slot + 1)) at byte b (l, k) n q (sym d) e;
        })
    clear_on_lem form slot at byte o b n l h q d e (is_whole k eq) =
        let z : slot + 1 ≡ g.slots = omega arith in
        rw eq (whole_ends (set img at byte) host (m + 1) b.allowed
        (subst (λ (s : ℕ). Stood (Clearing s) (set img at byte) host (m + 1)) z
        (stood_on form (Clearing (slot + 1)) img host m at byte b.inside n q e b.stood)))

    marked_last : (slot : ℕ) → slot + 1 ≡ plan.sc
        → part_of host (Clearing (slot + 1))
        ≡ part_of host (Filling slot (size_of g.n))
        ++ (record { at = offset_of g cylinder side slot; byte = 0x01 } ∷ [])
    marked_last slot z =
        ap (λ (s : ℕ). part_of host (Clearing s)) z
        ∙ so_far_turns g cylinder side plan host
        ∙ ap (λ (s : ℕ). part_of host (Awaiting s 0)) (sym z)
        ∙ so_far_marks g cylinder side plan host slot

    busy_rule : (form : Form) (o : Step) → At form → FormRule cylinder efifo fifothr site plan fifo form o → Gives o
    unfolding mark_place data_place
    busy_rule form o b (late_first slot wait e z k eq) =
        rw eq (late_first_on slot wait (rw e at b) z)
    busy_rule form o b (late_later slot k e z eq) = rw eq (late_later_on slot k (rw e at b) z)
    busy_rule form o b (waits slot wait e z k eq) =
        rw eq (record { form = Awaiting slot (wait + 1); is = refl; busy = waits_on slot wait (rw e at b) })
    busy_rule form o b (begins slot wait e p eq) =
        let b' : At (Awaiting slot wait) = rw e at b in
        rw eq (record {
          form = Addressing slot 0;
          is = refl;
          busy = store_on (Awaiting slot wait) (Addressing slot 0) _ _ b' (b'.inside, omega arith)
              (held_more efifo fifo fits host _ p b'.stream) (omega arith) (omega arith) refl;
        })
    busy_rule form o b (addresses slot k e p l eq) =
        let b' : At (Addressing slot k) = rw e at b in
        rw eq (record {
          form = Addressing slot (k + 1);
          is = refl;
          busy = drawn_on (Addressing slot k) (Addressing slot (k + 1)) _ b' p (b'.inside.0, omega arith)
              (held_more efifo fifo fits host _ p b'.stream) (omega arith) (omega arith)
              (so_far_addresses g cylinder side plan host slot k l);
        })
    busy_rule form o b (addresses_last slot k e p l eq) =
        let b'' : At (Addressing slot k) = rw e at b in
        let z : k ≡ 3 = omega (arith, b''.inside.1) in
        let b' : At (Addressing slot 3) = rw z at b'' in
        rw (eq, z) (record {
          form = Filling slot 0;
          is = refl;
          busy = drawn_on (Addressing slot 3) (Filling slot 0) _ b' p (b'.inside.0, omega arith)
              (held_more efifo fifo fits host _ p b'.stream) (omega arith) (omega arith)
              (so_far_addressed g cylinder side plan host slot);
        })
    busy_rule form o b (fills slot done e l eq) =
        let b' : At (Filling slot done) = rw e at b in
        rw eq (record {
          form = Filling slot (done + 1);
          is = refl;
          busy = store_on (Filling slot done) (Filling slot (done + 1)) _ _ b' (b'.inside.0, omega arith) tt
              (omega arith) (omega arith) (so_far_fills g cylinder side plan host slot done);
        })
    busy_rule form o b (marks slot done e l h eq) =
        let b'' : At (Filling slot done) = rw e at b in
        let z : done ≡ size_of g.n = omega (arith, b''.inside.1) in
        let b' : At (Filling slot (size_of g.n)) = rw z at b'' in
        rw eq (record {
          form = Awaiting (slot + 1) 0;
          is = refl;
          busy = store_on (Filling slot (size_of g.n)) (Awaiting (slot + 1) 0) _ _ b' h tt
              (omega arith) (omega arith) (so_far_marks g cylinder side plan host slot);
        })
    busy_rule form o b (marks_last slot done e l h r) =
        let b'' : At (Filling slot done) = rw e at b in
        let z : done ≡ size_of g.n = omega (arith, b''.inside.1) in
        let b' : At (Filling slot (size_of g.n)) = rw z at b'' in
        let y : slot + 1 ≡ plan.sc = omega (arith, b''.inside.0) in
        let w : plan.sc * slot_stores g ≡ (slot + 1) * slot_stores g = ap (λ (n : ℕ). n * slot_stores g) (sym y) in
        clear_on_lem (Filling slot (size_of g.n)) slot _ _ o b' tt h (omega (arith, b'.allowed.most)) (omega arith)
        (omega arith) (marked_last slot y) r
    busy_rule form o b (clears slot e r) =
        let b' : At (Clearing slot) = rw e at b in
        clear_on_lem (Clearing slot) slot _ _ o b' tt (omega (arith, b'.inside.0)) b'.inside.1
        (omega (arith, b'.inside.0)) refl
        (so_far_clears g cylinder side plan host slot b'.inside.0) r

  -- The first tick.

  left_none : Left [] 0 old
  left_none =
      let none = fed_none g cylinder side plan [] in
      record {
        image = refl;
        part = omega arith;
        allowed = λ p. absurd (omega arith);
        begun = none.begun;
        fed = none.fed;
      }

  module _ (some : 0 < g.slots) where
    -- an end in it says that nothing is stored
    shut_says : (st1 : ℕ) → (st1 ≡ 0x00 → ⊥) → (st1 ≡ 0x10 → ⊥) → (st1 ≡ 0x02 → g.protect ≡ true)
        → (st1 ≡ 0x04 → Allowed g cylinder side plan → ⊥)
        → Says [] 0 (form_verdict false st1 0 drive side plan cylinder)
    shut_says st1 no_00 no_10 is_02 is_04 =
        let more = script_some g cylinder side plan [] some in
        record {
          st0_is = rw (ne_eqb 0 (length (script [])) (λ e. omega arith)) refl;
          clean = λ e. absurd (omega arith);
          unclean = λ e. absurd (no_00 e);
          st2_is = refl;
          address = refl;
          done = record { most = omega arith; whole = omega arith; next = λ l. omega arith };
          begun_left = λ l h. absurd (omega arith);
          late = λ e. absurd (no_10 e);
          protected = λ e. (is_02 e, refl);
          misplanned = λ e. (is_04 e, refl);
        }

    first_busy : (efifo : Bool) → Allowed g cylinder side plan → Busy efifo (Awaiting 0 0) (opened_of emptied) old [] 0
    unfolding opened_of
    first_busy efifo a =
        record {
          allowed = a;
          inside = a.some;
          stood = record { place_is = omega arith; image = refl; fed = fed_none g cylinder side plan [] };
          request = open_opened efifo;
          off = refl;
          stream = stream_fresh (0 * slot_draws) false (omega arith);
        }

  -- A later tick.
  later_step : (efifo : Bool) (fifothr : ℕ) (form : Form) (fifo : Fifo) (img host : List ℕ) (m : ℕ) (seen : Disk)
      → FitsFifo efifo fifo → Busy efifo form fifo img host m
      → OnStep efifo (go_on_of (Formatting site plan form) seen cylinder img fifo efifo fifothr) img host m
  unfolding go_on_of work_step lost_of format_end end_of
  later_step efifo fifothr form fifo img host m seen f b =
      by_test (stays_of seen g) (λ (o : Step). OnStep efifo o img host m) _ _
      (λ t. busy_rule efifo fifothr fifo img host m f form _ b
      (form_rule cylinder efifo fifothr site plan fifo form))
      (λ t. (busy_left b, fails_says b 0x01 (inr refl) (λ e. absurd (omega arith))))

-- The first tick of the order.
module _ (g : Geometry) (cylinder : ℕ) (order : Order) (plan : Plan) (old : List ℕ) (disk : disk_in old ≡ Some g)
    (job : order.job ≡ Format plan) where
  some_slots : 0 < g.slots
  some_slots = (present_fits old g disk).range.slots.0

  abbrev Starts : Bool → Step → Type 0
  Starts efifo o = OnStep g cylinder order.drive order.side plan old efifo o old [] 0

  -- what a tick finds is the disk, if anything
  seen_same : (dor drive : ℕ) (h : Geometry) → seen_of dor drive old ≡ Some h → h ≡ g
  unfolding seen_of
  seen_same dor drive h =
      by_test (motor_in dor drive) (λ (d : Disk). d ≡ Some h → h ≡ g) _ _
      (λ t e. present_same h g (sym e ∙ disk)) (λ t e. absurd (absent≢present h e))

  shut : (efifo : Bool) (st1 : ℕ) (o : Step) → (st1 ≡ 0x00 → ⊥) → (st1 ≡ 0x10 → ⊥) → (st1 ≡ 0x02 → g.protect ≡ true)
      → (st1 ≡ 0x04 → Allowed g cylinder order.side plan → ⊥)
      → o ≡ ends_with (form_verdict false st1 0 order.drive order.side plan cylinder) None → Starts efifo o
  shut efifo st1 o no_00 no_10 is_02 is_04 eq =
      rw eq (
        left_none g cylinder order.drive order.side plan old,
        shut_says g cylinder order.drive order.side plan old some_slots st1 no_00 no_10 is_02 is_04,
      )

  first_starts : (efifo : Bool) (dor : ℕ) (o : Step)
      → FirstRule order.drive order.side plan cylinder emptied (seen_of dor order.drive old) o → Starts efifo o
  first_starts efifo dor o (nothing_there k eq) =
      shut efifo 0x01 o (λ e. omega arith) (λ e. omega arith) (λ e. absurd (omega arith)) (λ e. absurd
      (omega arith)) eq
  first_starts efifo dor o (is_protected h e p eq) =
      shut efifo 0x02 o (λ e. omega arith) (λ e. omega arith)
      (λ f. rw (← seen_same dor order.drive h e) p) (λ e. absurd (omega arith)) eq
  first_starts efifo dor o (is_misplanned h e k eq) =
      shut efifo 0x04 o (λ e. omega arith) (λ e. omega arith) (λ e. absurd (omega arith))
      (λ f a. k (rw (seen_same dor order.drive h e) a)) eq
  first_starts efifo dor o (opens h e a eq) =
      let s = seen_same dor order.drive h e in
      rw (eq, s) (record {
        form = Awaiting 0 0;
        is = refl;
        busy = first_busy g cylinder order.drive order.side plan old some_slots efifo (rw s at a);
      })

  first_step : (efifo : Bool) (dor : ℕ) → Starts efifo (begin_of order (seen_of dor order.drive old) cylinder emptied)
  first_step efifo dor = first_starts efifo dor _ (first_rule order plan cylinder emptied _ job)

-- Lists of calls.
module _ (g : Geometry) (cylinder : ℕ) (order : Order) (plan : Plan) (old : List ℕ) (disk : disk_in old ≡ Some g)
    (job : order.job ≡ Format plan) (hd : order.drive < 4) where
  abbrev drive : ℕ
  drive = order.drive

  abbrev here : Site
  here = site g cylinder drive order.side plan old

  abbrev AtIt : Bool → Form → Fifo → List ℕ → List ℕ → ℕ → Type 0
  AtIt efifo form fifo img host m = Busy g cylinder drive order.side plan old efifo form fifo img host m

  abbrev Leaves : List ℕ → ℕ → List ℕ → Type 0
  Leaves host m img = LeftByStores g cylinder drive order.side plan host m old img

  -- what the result in the record says
  abbrev Told : Controller → List ℕ → ℕ → Type 0
  Told c host m =
      FormatSays g cylinder drive order.side plan host m (result_byte 0 c) (result_byte 1 c) (result_byte 2 c)
      (result_id c)

  -- The record: the command is over, has not had its first tick, or is at it.
  pub data Run (c : Controller) (img : List ℕ) (h : History) (m : ℕ) : Type 0 where
    is_over : at_work c.phase ≡ false → Leaves h.host m img → (c.phase ≡ Answering true → Told c h.host m)
        → Run c img h m
    to_start : c.phase ≡ Starting order → (drive_at drive c.drives).head ≡ cylinder → img ≡ old → h.host ≡ []
        → m ≡ 0 → Run c img h m
    at_it : (form : Form) → c.phase ≡ Working (Formatting here plan form)
        → (drive_at drive c.drives).head ≡ cylinder → AtIt c.registers.efifo form c.fifo img h.host m
        → Run c img h m

  pub run_formatted : {c : Controller} {img : List ℕ} {h : History} {m : ℕ} → Run c img h m
      → FormattedBy g cylinder drive order.side plan h.host m old img c
  run_formatted (is_over w k t) = record { left = k; says = t }
  run_formatted (to_start p u i e z) =
      record {
        left = rw (i, e, z) (left_none g cylinder drive order.side plan old);
        says = λ a. absurd (true≢false (ap at_work (sym p ∙ a)));
      }
  run_formatted (at_it form p u b) =
      record {
        left = busy_left g cylinder drive order.side plan old b;
        says = λ a. absurd (true≢false (ap at_work (sym p ∙ a)));
      }

  settled_run : (then : Then) (fifo : Fifo) (c : Controller) (img : List ℕ) (h : History) (m : ℕ)
      → (drive_at drive c.drives).head ≡ cylinder
      → OnThen g cylinder drive order.side plan old c.registers.efifo then fifo img h.host m
      → Run (settled_of then fifo c) img h m
  unfolding settled_of answered_of with_fifo with_phase
  settled_run (Ends verdict) fifo c img h m u k = is_over refl k.0 (λ e. k.1)
  settled_run (Works work) fifo c img h m u k = at_it k.form (ap Working k.is) u k.busy

  tick_run : (a b : List ℕ) (c : Controller) (img : List ℕ) (h : History) (m d : ℕ) (o : Step)
      → ruled_of a b c ≡ decided_of d o c → d ≡ drive → (drive_at drive c.drives).head ≡ cylinder
      → OnStep g cylinder drive order.side plan old c.registers.efifo o img h.host m
      → Run (after (ticks a b) c) (image_by drive img (ticks a b) c) (history_by (ticks a b) c h)
      (stores_by (ticks a b) c m)
  unfolding answer_to tick_of answer_of image_after history_by decided_of
  tick_run a b c img h m d o e q u k =
      subst
      (λ (x : Decision). Run x.controller (stored_as x.drive drive x.effect img) (noted_store x.effect h)
      (counted_by x.effect m)) (sym e)
      (rw (eq-eqb d drive q) (settled_run o.then o.fifo c _ (noted_store o.effect h) _ u
      (rw (noted_host o.effect h) k)))

  pub head_is : (c : Controller) → (drive_at drive c.drives).head ≡ cylinder
      → (drive_at (drive % 4) c.drives).head ≡ cylinder
  head_is c u = rw (mod-eq_of_lt {n = drive} {m = 4} hd) u

  pub empty_start : (p : Phase) (n : ℕ) (f : Fifo) → p ≡ Starting order → Suits p n f → f ≡ emptied
  empty_start p n f e s = (rw e at s).1

  run_tick : (a b : List ℕ) (c : Controller) (img : List ℕ) (h : History) (m : ℕ) → Quiet c → at_work c.phase ≡ true
      → pick_of drive a b ≡ img → Run c img h m
      → Run (after (ticks a b) c) (image_by drive img (ticks a b) c) (history_by (ticks a b) c h)
      (stores_by (ticks a b) c m)
  run_tick a b c img h m q w e (is_over n k t) = absurd (false≢true (sym n ∙ w))
  run_tick a b c img h m q w e (to_start p u i f z) =
      tick_run a b c img h m drive _ (tick_starts a b c order q p) refl u
      (rw (e, i, f, z, head_is c u, empty_start c.phase _ c.fifo p q.good.phase)
      (first_step g cylinder order plan old disk job c.registers.efifo c.registers.dor))
  run_tick a b c img h m q w e (at_it form p u k) =
      tick_run a b c img h m drive _ (tick_works a b c (Formatting here plan form) q p) refl u
      (rw (e, head_is c u)
      (later_step g cylinder drive order.side plan old c.registers.efifo c.registers.fifothr form
      c.fifo img
      h.host m _ q.good.fifo k))

  -- A byte from the host; TC is ignored.
  busy_given : (efifo : Bool) (form : Form) (fifo : Fifo) (img host : List ℕ) (m byte : ℕ) (tc : Bool) → tc ≡ false
      → FitsFifo efifo fifo → fifo.asks ≡ true → AtIt efifo form fifo img host m
      → AtIt efifo form (given_of efifo tc byte fifo) img (host ++ (byte ∷ [])) m
  busy_given efifo form fifo img host m byte tc off f a b =
      let within = stream_within host _ _ fifo.tc b.off b.stream in
      record {
        allowed = b.allowed;
        inside = b.inside;
        stood = record {
          place_is = b.stood.place_is;
          image = b.stood.image ∙ ap (λ (l : List Stored). applied l old)
              (sym (so_far_grown g cylinder order.side plan host byte form within));
          fed = fed_grown g cylinder order.side plan host byte m b.stood.fed;
        };
        request = open_given efifo tc byte fifo a b.request;
        off = rw off (given_tc efifo byte fifo b.off);
        stream = held_given efifo fifo f host _ tc byte a b.request b.stream;
      }

  -- A call that is no tick.
  kept_run : (call : Call) (c e : Controller) (img : List ℕ) (h : History) (m : ℕ) → Quiet c → at_work c.phase ≡ true
      → Keeps c e → FifoRule call c e → Run c img h m → Run e img (history_by call c h) m
  kept_run call c e img h m q w k r (is_over n d t) = absurd (false≢true (sym n ∙ w))
  kept_run call c e img h m q w k (same f n) (to_start p u i x z) =
      to_start (k.phase ∙ p) (k.heads drive hd ∙ u) i (ap (λ (y : History). y.host) (n h) ∙ x) z
  kept_run call c e img h m q w k (took tc y t f n) (to_start p u i x z) = absurd (false≢true (rw p at t))
  kept_run call c e img h m q w k (gave byte tc t a f n) (to_start p u i x z) = absurd (false≢true (rw p at t))
  kept_run call c e img h m q w k (same f n) (at_it form p u b) =
      at_it form (k.phase ∙ p) (k.heads drive hd ∙ u) (rw (k.efifo, f, n h) b)
  kept_run call c e img h m q w k (took tc y t f n) (at_it form p u b) = absurd (false≢true (rw p at t))
  kept_run call c e img h m q w k (gave byte tc t a f n) (at_it form p u b) =
      at_it form (k.phase ∙ p) (k.heads drive hd ∙ u)
      (rw (k.efifo, f, n h)
      (busy_given c.registers.efifo form c.fifo img h.host m byte (tc && phase_hears c.phase)
      (rw p (and-false tc)) q.good.fifo a b))

  -- no other call stores
  stores_same : (call : Call) (c : Controller) (m : ℕ) → NoTick call → stores_by call c m ≡ m
  stores_same (powers head0 head1) c m n = refl
  stores_same (reads offset) c m n = refl
  stores_same (writes offset byte) c m n = refl
  stores_same (takes tc) c m n = refl
  stores_same (gives byte tc) c m n = refl
  stores_same (ticks a b) c m n = absurd n
  stores_same (notes drive') c m n = refl

  call_run : (call : Call) (c : Controller) (img : List ℕ) (h : History) (m : ℕ) → Quiet c → at_work c.phase ≡ true
      → NoTick call → Run c img h m
      → Run (after call c) (image_by drive img call c) (history_by call c h) (stores_by call c m)
  call_run call c img h m q w n r =
      rw (image_same drive img call c n, stores_same call c m n) (go (call_rule call c q w n))
    where
      go : CallRule call c (after call c) → Run (after call c) img (history_by call c h) m
      go (cut_off o same_h) =
          is_over (ap at_work o) (rw (same_h h) (run_formatted r).left) (λ e. absurd (idle≢answering true (sym o ∙ e)))
      go (goes_on_lem k f) = kept_run call c (after call c) img h m q w k f r

  pub run_after : (call : Call) (c : Controller) (img : List ℕ) (h : History) (m : ℕ) → Quiet c
      → at_work c.phase ≡ true
      → Handed drive img call → Run c img h m
      → Run (after call c) (image_by drive img call c) (history_by call c h) (stores_by call c m)
  run_after call c img h m q w e r =
      tick_or_not
      (λ x. Handed drive img x → Run (after x c) (image_by drive img x c) (history_by x c h) (stores_by x c m))
      (λ a b e. run_tick a b c img h m q w e r)
      (λ x n e. call_run x c img h m q w n r) call e

  run_all : (calls : List Call) (c : Controller) (img : List ℕ) (h : History) (m : ℕ) → Quiet c → Its calls c
      → Alone drive img calls c → Run c img h m
      → Run (run_calls calls c) (image_left drive img calls c) (history_of calls c h) (stores_of calls c m)
  unfolding Its Alone image_left history_of run_calls stores_of
  run_all [] c img h m q i a r = r
  run_all (call ∷ calls) c img h m q i a r =
      let (handed_it, alone) = a i.0 in
      run_all calls (after call c) (image_by drive img call c) (history_by call c h) (stores_by call c m)
      (quiet_after call c q i.0) i.1 alone (run_after call c img h m q i.0 handed_it r)

-- 01 Format: after any of its calls the image is the old one with a first part of the script applied
pub format_script_quiet : FormatScript Quiet
format_script_quiet c q order plan f old g disk calls its alone =
    let (hd, hs, told) = rw f.accepted at q.proper in
    run_formatted g (head_of order c) order plan old disk f.formats hd
    (run_all g (head_of order c) order plan old disk f.formats hd calls c old no_history 0 q its alone
    (to_start f.accepted refl refl refl refl))

pub format_script : FormatScript Real
format_script c r = format_script_quiet c (quiet_real c r)
