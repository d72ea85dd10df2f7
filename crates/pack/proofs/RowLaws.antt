-- A row is a part of the bytes, read and written whole; and the record's rows lie in its own bytes, before any behind them.
-- Assumes nothing.
use Prim.Native.Nat.{ℕ, zero, suc, ◌+◌, ◌-◌, ◌≤◌}
use mathlib.Core.Bool.{◌&&◌}
use mathlib.Core.List.{List, [], ◌∷◌, ◌++◌}
use mathlib.Core.Path.{◌≡◌, refl, sym, ap, ◌∙◌}
use native.Mathlib.Omega.{arith}
use lib.Dec.{eqb}
use lib.ListN.{length, get_or, take, drop}
use lib.Seq.{sets, sets-eq}
use borrow.Author.Tests.{le-leb}
use borrow.Rule.Slice.PartMut.{put_mid}
use Rattle.std.proofs.lemmas.List.{append_assoc, drop-drop, take-append-drop}
use Rattle.std.specs.Array.{IsFirstChunk}
use Rattle.chip.specs.declared.fifo.Fifo.{Fifo}
use Rattle.pack.specs.Bytes.{byte_at, record_size, row_at, record_in, loaded_of, cases_ok, drives_ok, flat_ok, is_record, fifo_put}
use Rattle.pack.specs.Cycle.{bounded_in, drives_still, cycles_in, due_in}
use Rattle.pack.specs.Places.{version, version_at, task_row, pass_at}
use Rattle.pack.proofs.BackLaws.{spelt, spelt_part, spelt_whole}

-- the elements from a place on, counted from it
abbrev spelt_on : List ℕ → ℕ → ℕ → ℕ → List ℕ
spelt_on l at k zero = []
spelt_on l at k (suc n) = get_or l (at + k) 0 ∷ spelt_on l at (suc k) n

spelt_on_spelt : (l : List ℕ) (at k n : ℕ) → spelt_on l at k n ≡ spelt 0 l (at + k) n
spelt_on_spelt l at k zero = refl
spelt_on_spelt l at k (suc n) =
    let e : at + suc k ≡ suc (at + k) = omega arith in
    ap (λ r. get_or l (at + k) 0 ∷ r) (spelt_on_spelt l at (suc k) n ∙ ap (λ i. spelt 0 l i n) e)

row_spelt : (l : List ℕ) (at : ℕ) → row_at l at ≡ spelt 0 l at 16
row_spelt l at =
    let e : at + 1 ≡ suc at = omega arith in
    ap (λ r. get_or l at 0 ∷ r) (spelt_on_spelt l at 1 15 ∙ ap (λ i. spelt 0 l i 15) e)

pub row_read : (l : List ℕ) (at : ℕ) → at + 16 ≤ length l → take (at + 16 - at) (drop at l) ≡ row_at l at
row_read l at h =
    let e : at + 16 - at ≡ 16 = omega arith in
    ap (λ n. take n (drop at l)) e ∙ sym (row_spelt l at ∙ spelt_part 0 l at 16 h)

pub row_written : (l row : List ℕ) (at : ℕ) → at + 16 ≤ length l → length row ≡ 16
    → put_mid at (at + 16 - at) l row ≡ sets l at (row_at row 0)
row_written l row at h e =
    let k : at + 16 - at ≡ 16 = omega arith in
    let fits : at + length row ≤ length l = omega arith in
    ap (λ n. take at l ++ (row ++ drop n (drop at l))) k
    ∙ ap (λ t. take at l ++ (row ++ t)) (drop-drop 16 at l)
    ∙ ap (λ n. take at l ++ (row ++ drop (at + n) l)) (sym e)
    ∙ sym (append_assoc (take at l) row (drop (at + length row) l))
    ∙ sym (sets-eq row l at fits)
    ∙ ap (sets l at) (sym (spelt_whole 0 row 16 e))

-- the record's bytes, written out
pub front_is : (l r : List ℕ) → IsFirstChunk l r record_size → r ≡ spelt 0 l 0 208
front_is l r f = f.same ∙ sym (spelt_part 0 l 0 208 f.enough)

record_spelt : (l : List ℕ) → record_in (spelt 0 l 0 208) ≡ record_in l
unfolding record_in
record_spelt l = refl

pub record_front : (l r : List ℕ) → IsFirstChunk l r record_size → record_in r ≡ loaded_of l
unfolding loaded_of
record_front l r f =
    rw (le-leb record_size (length l) f.enough) (ap record_in (front_is l r f) ∙ record_spelt l)

cases_spelt : (l : List ℕ) → cases_ok (spelt 0 l 0 208) ≡ cases_ok l
unfolding cases_ok drives_ok flat_ok
cases_spelt l = refl

pub is_record_front : (l r : List ℕ) → IsFirstChunk l r record_size
    → eqb (byte_at r version_at) version && cases_ok r ≡ is_record l
unfolding is_record
is_record_front l r f =
    rw (le-leb record_size (length l) f.enough)
    (ap (λ x. eqb (byte_at x version_at) version && cases_ok x) (front_is l r f)
    ∙ ap (λ t. eqb (byte_at l version_at) version && t) (cases_spelt l))

cycles_spelt : (l : List ℕ) → cycles_in (spelt 0 l 0 208) ≡ cycles_in l
unfolding cycles_in bounded_in drives_still
cycles_spelt l = refl

pub due_front : (pass : ℕ) (l r : List ℕ) → IsFirstChunk l r record_size
    → cycles_in r && eqb (byte_at (row_at r task_row) pass_at) pass ≡ due_in pass l
due_front pass l r f =
    rw (le-leb record_size (length l) f.enough)
    (ap (λ x. cycles_in x && eqb (byte_at (row_at x task_row) pass_at) pass) (front_is l r f)
    ∙ ap (λ t. t && eqb (byte_at (row_at l task_row) pass_at) pass) (cycles_spelt l))

fifo_spelt : (f : Fifo) (l rest : List ℕ)
    → fifo_put f (spelt 0 l 0 208) ++ rest ≡ fifo_put f (spelt 0 l 0 208 ++ rest)
unfolding fifo_put
fifo_spelt f l rest = refl

pub fifo_front : (f : Fifo) (l r : List ℕ) → IsFirstChunk l r record_size
    → fifo_put f r ++ drop record_size l ≡ fifo_put f l
fifo_front f l r g =
    ap (λ x. fifo_put f x ++ drop record_size l) (front_is l r g)
    ∙ fifo_spelt f l (drop record_size l)
    ∙ ap (λ x. fifo_put f (x ++ drop record_size l)) (spelt_part 0 l 0 208 g.enough)
    ∙ ap (fifo_put f) (take-append-drop record_size l)
