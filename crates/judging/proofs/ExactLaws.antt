-- `JudgedExactly` and `FaultExactly` (02 2026-04): the judge's answer is the first fault, stage by stage. A wrong
-- header leaves no other kind, a wrong length none but its own.
-- Assumes nothing.
use Prim.Native.Nat.{ℕ, ◌<◌, ◌≤◌}
use native.Mathlib.Omega.{arith}
use mathlib.Core.Bool.{Bool, true, false, cond, false≢true}
use mathlib.Core.List.{List}
use mathlib.Core.Logic.{◌⊎◌, inl, inr, ◌≢◌}
use mathlib.Core.Path.{◌≡◌, refl, sym, ap, ◌∙◌}
use lib.Dec.{eqb, ltb}
use lib.ListN.{length, take}
use borrow.Author.Tests.{eqb-true, eqb-false, ltb-true, ltb-false, lt-ltb, le-ltb}
use Rattle.image.specs.declared.layout.Geometry.{Geometry}
use Rattle.image.specs.Disk.{geometry_in, header_of, InRange, Fits}
use Rattle.image.specs.Layout.{length_of}
use Rattle.image.proofs.DiskLaws.{header_geometry, length_le}
use Rattle.image.proofs.LayoutLaws.{length_ge}
use Rattle.image.proofs.TestLaws.{le_or_lt}
use Rattle.judging.specs.declared.fault.Kind.{Kind}
use Rattle.judging.specs.declared.fault.Kind.TheVariants as kind
use Rattle.judging.specs.declared.fault.Fault.{Fault}
use Rattle.std.specs.Prelude.{Ok, Err}
use Rattle.judging.specs.Verdict.{Verdict, fault, unless, is_fault, or_else}
use Rattle.judging.specs.Fault.{FaultAt}
use Rattle.judging.specs.Judge.{
  header_fault,
  smaller,
  length_fault,
  tracks_fault,
  end_fault,
  body_fault,
  judge_of,
}
use Rattle.judging.specs.Statements.{FirstFault, JudgedExactly, FaultExactly}
use Rattle.judging.proofs.FaultLaws.{InBody, part_body}
use Rattle.judging.proofs.HeaderLaws.{right_range, right_header, header_none, InHeader, part_header}
use Rattle.judging.proofs.PartLaws.{Told, part_said}

-- one kind at a byte, and the answer the first of all
pub record Exact (img : List ℕ) (v : Verdict) : Type 0 where
  pub once : (j k : Kind) (o : ℕ) → FaultAt img j o → FaultAt img k o → j ≡ k
  pub told : Told (FaultAt img) v

-- every fault but the header's has a right header
headed :
    (img : List ℕ) (k : Kind) (o : ℕ) → FaultAt img k o
    → InHeader img k o ⊎ ((g : Geometry) × InRange g × (take 8 img ≡ header_of g))
headed img kind.Header o f = inl (refl, f)
headed img kind.Length o f = inr (f.g, f.range, f.header)
headed img kind.Track o f = inr (f.g, f.fits.range, f.fits.header)
headed img kind.Place o f = inr (f.g, f.fits.range, f.fits.header)
headed img kind.Mark o f = inr (f.g, f.fits.range, f.fits.header)
headed img kind.Twice o f = inr (f.g, f.fits.range, f.fits.header)
headed img kind.End o f = inr (f.g, f.fits.range, f.fits.header)

-- a wrong header
exact_header : (img : List ℕ) (f : Fault) → header_fault img ≡ Err f → Exact img (Err f)
exact_header img f e =
    record {
      once = λ j k o p q. (header j o p).0 ∙ sym (header k o q).0;
      told = (rw there.0 there.1, λ k o p. first k o (header k o p));
    }
  where
    told : Told (InHeader img) (Err f)
    told = rw e at (part_header img).told

    there : InHeader img f.kind f.at
    there = told.0

    first : (k : Kind) (o : ℕ) → InHeader img k o → f.at ≤ o
    first = told.1

    header : (k : Kind) (o : ℕ) → FaultAt img k o → InHeader img k o
    header k o p = go (headed img k o p)
      where
        go : InHeader img k o ⊎ ((g : Geometry) × InRange g × (take 8 img ≡ header_of g)) → InHeader img k o
        go (inl h) = h
        go (inr (g, r, h)) =
            absurd (header_none img g r h f.at there.1)

-- a geometry that the header says is the one that its bytes give
same_fits :
    (img : List ℕ) (g : Geometry) → Fits g img
    → (geometry_in img ≡ g) × (length img ≡ length_of (geometry_in img))
same_fits img g f =
    let e = header_geometry img g f.header in
    (e, rw e f.size)

-- a wrong length: its fault and no other
module _ (img : List ℕ) (s : header_fault img ≡ Ok tt) where
  abbrev own : Geometry
  own = geometry_in img

  at_smaller :
      (o a b : ℕ) → ((a < b) × (o ≡ a)) ⊎ ((b < a) × (o ≡ b)) → o ≡ smaller a b
  at_smaller o a b (inl (l, e)) = rw (lt-ltb a b l) e
  at_smaller o a b (inr (l, e)) = rw (le-ltb a b (omega arith)) e

  smaller_at :
      (o a b : ℕ) → a ≢ b → o ≡ smaller a b → ((a < b) × (o ≡ a)) ⊎ ((b < a) × (o ≡ b))
  smaller_at o a b d = go (ltb a b) refl
    where
      go : (t : Bool) → ltb a b ≡ t → o ≡ cond t a b → ((a < b) × (o ≡ a)) ⊎ ((b < a) × (o ≡ b))
      go true e q = inl (ltb-true a b e, q)
      go false e q = inr (less (le_or_lt a b), q)
        where
          less : (a ≤ b) ⊎ (b < a) → b < a
          less (inl l) = absurd (d (omega (arith, ltb-false a b e)))
          less (inr l) = l

  only_length :
      length img ≢ length_of own → (k : Kind) (o : ℕ) → FaultAt img k o
      → (k ≡ kind.Length) × (o ≡ smaller (length img) (length_of own))
  only_length d kind.Header o f = absurd (header_none img own (right_range img s) (right_header img s) o f)
  only_length d kind.Length o f =
      let e = header_geometry img f.g f.header in
      (refl, rw e (at_smaller o (length img) (length_of f.g) f.other))
  only_length d kind.Track o f = absurd (d (same_fits img f.g f.fits).1)
  only_length d kind.Place o f = absurd (d (same_fits img f.g f.fits).1)
  only_length d kind.Mark o f = absurd (d (same_fits img f.g f.fits).1)
  only_length d kind.Twice o f = absurd (d (same_fits img f.g f.fits).1)
  only_length d kind.End o f = absurd (d (same_fits img f.g f.fits).1)

  exact_length : length img ≢ length_of own → Exact img (fault kind.Length (smaller (length img) (length_of own)))
  exact_length d =
      record {
        once = λ j k o p q. (only_length d j o p).0 ∙ sym (only_length d k o q).0;
        told = (
          record {
            g = own;
            range = right_range img s;
            header = right_header img s;
            other = smaller_at (smaller (length img) (length_of own)) (length img) (length_of own) d refl;
          },
          λ k o p. omega (arith, (only_length d k o p).1),
        );
      }

  -- an image that fits: the parts behind the header
  module _ (size : length img ≡ length_of own) where
    fits : Fits own img
    fits = record { range = right_range img s; header = right_header img s; size = size }

    to_body : (k : Kind) (o : ℕ) → FaultAt img k o → InBody own img k o
    to_body kind.Header o f = absurd (header_none img own (right_range img s) (right_header img s) o f)
    to_body kind.Length o f = absurd (go f.other)
      where
        e : geometry_in img ≡ f.g
        e = header_geometry img f.g f.header

        asked : length img ≡ length_of f.g
        asked = size ∙ ap length_of e

        go :
            ((length img < length_of f.g) × (o ≡ length img)) ⊎ ((length_of f.g < length img) × (o ≡ length_of f.g))
            → ⊥
        go (inl (l, q)) = omega (arith, asked)
        go (inr (l, q)) = omega (arith, asked)
    to_body kind.Track o f = rw (same_fits img f.g f.fits).0 f.there
    to_body kind.Place o f = rw (same_fits img f.g f.fits).0 f.there
    to_body kind.Mark o f = rw (same_fits img f.g f.fits).0 f.there
    to_body kind.Twice o f = rw (same_fits img f.g f.fits).0 f.there
    to_body kind.End o f = rw (same_fits img f.g f.fits).0 f.there

    of_body : (k : Kind) (o : ℕ) → InBody own img k o → FaultAt img k o
    of_body kind.Header o f = elim f [ ]
    of_body kind.Length o f = elim f [ ]
    of_body kind.Track o f = record { g = own; fits = fits; there = f }
    of_body kind.Place o f = record { g = own; fits = fits; there = f }
    of_body kind.Mark o f = record { g = own; fits = fits; there = f }
    of_body kind.Twice o f = record { g = own; fits = fits; there = f }
    of_body kind.End o f = record { g = own; fits = fits; there = f }

    exact_body : Exact img (or_else (tracks_fault own img) (end_fault own img))
    exact_body =
        let p = part_said (FaultAt img) of_body to_body (part_body own img (right_range img s)) in
        record { once = p.once; told = p.told }

-- the answer on any bytes
pub exact : (img : List ℕ) → Exact img (judge_of img)
unfolding judge_of body_fault length_fault
exact img = header (header_fault img) refl
  where
    length_stage :
        header_fault img ≡ Ok tt → (t : Bool) → eqb (length img) (length_of (geometry_in img)) ≡ t
        → Exact img (or_else (cond t (Ok tt) (fault kind.Length (smaller (length img) (length_of (geometry_in img)))))
        (or_else (tracks_fault (geometry_in img) img) (end_fault (geometry_in img) img)))
    length_stage s true e = exact_body img s (eqb-true _ _ e)
    length_stage s false e = exact_length img s (eqb-false _ _ e)

    header :
        (v : Verdict) → header_fault img ≡ v
        → Exact img (or_else v (or_else (unless (eqb (length img) (length_of (geometry_in img))) kind.Length
        (smaller (length img) (length_of (geometry_in img))))
        (or_else (tracks_fault (geometry_in img) img) (end_fault (geometry_in img) img))))
    header (Ok _) e = length_stage e (eqb (length img) (length_of (geometry_in img))) refl
    header (Err f) e = exact_header img f e

-- 02 2026-04
pub judged_exactly : JudgedExactly
judged_exactly img k o = (
  λ e. let t = rw e at (exact img).told in record { there = t.0; first = t.1 },
  λ f. back f (judge_of img) refl,
)
  where
    back : FirstFault img k o → (v : Verdict) → judge_of img ≡ v → v ≡ fault k o
    back f (Ok _) e = absurd ((rw e at (exact img).told) k o f.there)
    back f (Err x) e =
        let t = rw e at (exact img).told in
        let here : x.at ≡ o = omega (arith, t.1 k o f.there, f.first x.kind x.at t.0) in
        let same : x.kind ≡ k = (exact img).once x.kind k o (rw here at t.0) f.there in
        rw (← same, ← here)

pub fault_exactly : FaultExactly
fault_exactly img = (λ h. to (judge_of img) refl h, λ (k, o, f). back k o f (judge_of img) refl)
  where
    to : (v : Verdict) → judge_of img ≡ v → is_fault (judge_of img) ≡ true → (k : Kind) × (o : ℕ) × FaultAt img k o
    to (Ok _) e h = absurd (false≢true (rw e at h))
    to (Err f) e h = (f.kind, f.at, (rw e at (exact img).told).0)

    back : (k : Kind) (o : ℕ) → FaultAt img k o → (v : Verdict) → judge_of img ≡ v → is_fault v ≡ true
    back k o f (Ok _) e = absurd ((rw e at (exact img).told) k o f)
    back k o f (Err x) e = refl

-- no offset is past the largest image
low : (img : List ℕ) (k : Kind) (o : ℕ) → FaultAt img k o → o ≤ 6076047
low img k o f = go k f
  where
    body : (g : Geometry) → InRange g → (k : Kind) → InBody g img k o → o ≤ 6076047
    body g r k p = omega (arith, (part_body g img r).stops k o p, length_le g r, length_ge g)

    go : (k : Kind) → FaultAt img k o → o ≤ 6076047
    go kind.Header f = omega (arith, f.inside)
    go kind.Length f = smallest f.other
      where
        smallest :
            ((length img < length_of f.g) × (o ≡ length img)) ⊎ ((length_of f.g < length img) × (o ≡ length_of f.g))
            → o ≤ 6076047
        smallest (inl (l, e)) = omega (arith, length_le f.g f.range)
        smallest (inr (l, e)) = omega (arith, length_le f.g f.range)
    go kind.Track f = body f.g f.fits.range kind.Track f.there
    go kind.Place f = body f.g f.fits.range kind.Place f.there
    go kind.Mark f = body f.g f.fits.range kind.Mark f.there
    go kind.Twice f = body f.g f.fits.range kind.Twice f.there
    go kind.End f = body f.g f.fits.range kind.End f.there

pub offset_low : (img : List ℕ) (f : Fault) → judge_of img ≡ Err f → f.at ≤ 6076047
offset_low img f e = low img f.kind f.at (rw e at (exact img).told).0
