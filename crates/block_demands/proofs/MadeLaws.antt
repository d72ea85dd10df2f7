-- Lists of calls put one behind the other (02 2026-01).
-- Assumes nothing.
use mathlib.Core.List.{List, [], ◌∷◌, ◌++◌}
use mathlib.Core.Path.{◌≡◌, refl, ap, ◌∙◌}
use Rattle.fdc.specs.declared.record.Controller.{Controller}
use Rattle.reached.specs.Runs.{Call, after, run_calls}
use Rattle.demands.specs.Work.{AllOfBytes, image_left}
use Rattle.block.specs.Box.{Box}
use Rattle.block_demands.specs.Made.{box_by, box_after, AllHanded, Made, Rests}

pub after_join : (xs ys : List Call) (s : Box) → box_after (xs ++ ys) s ≡ box_after ys (box_after xs s)
unfolding box_after
after_join [] ys s = refl
after_join (x ∷ xs) ys s = after_join xs ys (box_by x s)

pub run_join : (xs ys : List Call) (c : Controller) → run_calls (xs ++ ys) c ≡ run_calls ys (run_calls xs c)
unfolding run_calls
run_join [] ys c = refl
run_join (x ∷ xs) ys c = run_join xs ys (after x c)

pub handed_join : (xs ys : List Call) (s : Box) → AllHanded xs s → AllHanded ys (box_after xs s) → AllHanded (xs ++ ys) s
unfolding AllHanded box_after
handed_join [] ys s h k = k
handed_join (x ∷ xs) ys s h k = (h.0, handed_join xs ys (box_by x s) h.1 k)

pub rests_join : (xs ys : List Call) (c : Controller) → Rests xs c → Rests ys (run_calls xs c) → Rests (xs ++ ys) c
unfolding Rests run_calls
rests_join [] ys c h k = k
rests_join (x ∷ xs) ys c h k = (h.0, rests_join xs ys (after x c) h.1 k)

pub bytes_join : (xs ys : List Call) → AllOfBytes xs → AllOfBytes ys → AllOfBytes (xs ++ ys)
bytes_join [] ys b d = d
bytes_join (x ∷ xs) ys b d = (b.0, bytes_join xs ys b.1 d)

-- the record is that of the calls alone
pub after_record : (calls : List Call) (s : Box) → (box_after calls s).controller ≡ run_calls calls s.controller
unfolding box_after run_calls
after_record [] s = refl
after_record (call ∷ calls) s = after_record calls (box_by call s)

-- so are the images
pub after_first : (calls : List Call) (s : Box) → (box_after calls s).first ≡ image_left 0 s.first calls s.controller
unfolding box_after image_left
after_first [] s = refl
after_first (call ∷ calls) s = after_first calls (box_by call s)

pub after_second : (calls : List Call) (s : Box) → (box_after calls s).second
    ≡ image_left 1 s.second calls s.controller
unfolding box_after image_left
after_second [] s = refl
after_second (call ∷ calls) s = after_second calls (box_by call s)

unfoldable pub made_none : (s : Box) → Made s s
unfolding box_after AllHanded
made_none s = record { calls = []; bytes = tt; handed = tt; leads = refl }

unfoldable pub made_join : {s t u : Box} → Made s t → Made t u → Made s u
made_join {s} m n = record {
  calls = m.calls ++ n.calls;
  bytes = bytes_join m.calls n.calls m.bytes n.bytes;
  handed = handed_join m.calls n.calls s m.handed (rw m.leads n.handed);
  leads = after_join m.calls n.calls s ∙ ap (box_after n.calls) m.leads ∙ n.leads;
}
