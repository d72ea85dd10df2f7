-- One sector written (02 2026-01; specs/BlockWrites): a write command that was handed a block's bytes, and finished
-- them, has finished one sector, and that is the block's slot.
-- Assumes nothing.
use Prim.Native.Nat.{ℕ, ◌+◌, ◌*◌, ◌<◌, ◌≤◌}
use native.Mathlib.Omega.{arith}
use mathlib.Core.Bool.{false}
use mathlib.Core.List.{List, [], ◌∷◌}
use mathlib.Core.Path.{◌≡◌, refl, ap, ◌∙◌, subst}
use lib.ListN.{length, get_or}
use lib.Seq.{take_all}
use Rattle.image.specs.declared.layout.Geometry.{Geometry}
use Rattle.image.specs.Layout.{size_of}
use Rattle.image.specs.Sound.{Sound}
use Rattle.sectors.specs.declared.order.Pass.TheVariants.{Write}
use Rattle.demands.specs.Acknowledged.{done_count}
use Rattle.demands.specs.History.{Sector, no_one, History}
use Rattle.demands.specs.PowerCut.{Aim, Counts, Stands, passing, Finished, AllFinished, LeftBy}
use Rattle.demands.proofs.HandedStream.{size_some}
use Rattle.block.specs.declared.place.Place.{Place}
use Rattle.block.specs.Place.{place_of}
use Rattle.block_demands.specs.Asked.{transfer_of, id_of, Slot}
use Rattle.block_demands.specs.BlockWrites.{Stored}
use Rattle.block_demands.proofs.StandsLaws.{slot_stands, one_place}
use Rattle.block_demands.proofs.WriteLoopLaws.{Starts}

-- the caller's first bytes, and not fewer than all, are all of them
pub starts_all : (host bytes : List ℕ) → Starts host bytes → length bytes ≤ length host → host ≡ bytes
starts_all host bytes e l = e ∙ take_all (length host) bytes l

-- what the command leaves: no sector begun, and every byte of the host in a finished one
module _ (g : Geometry) (block mark at : ℕ) (old img bytes : List ℕ) (sound : Sound g old) (counts : Counts mark)
    (slot : Slot g old block mark at) (size : length bytes ≡ size_of g.n) (h : History) (host : h.host ≡ bytes)
    (left : LeftBy g (place_of g block).cylinder (transfer_of Write g)
    (record { id = id_of g (place_of g block); side = (place_of g block).side }) old img h)
    (none : h.begun ≡ no_one) (all : length h.host ≤ done_count h * passing g) where
  abbrev place : Place
  place = place_of g block

  abbrev aim : Aim
  aim = record { id = id_of g place; side = place.side }

  -- the finished sector is the slot
  same_place : (p : ℕ) → Stands g old place.cylinder aim p → p ≡ at
  same_place p stands =
      one_place g old sound place.cylinder aim p at stands (slot_stands g old block mark at slot counts)

  stored_by_lem : (fin : List Sector) → h.finished ≡ fin
      → AllFinished g place.cylinder (transfer_of Write g) aim old img h.host fin
      → length h.host ≤ length fin * passing g
      → ((k : ℕ) → k < length fin → k * passing g < length h.host) → Stored g at old img bytes
  stored_by_lem [] is finished all_in fed = absurd (omega (arith, size, ap length host, size_some g.n))
  stored_by_lem (one ∷ two ∷ rest) is finished all_in fed =
      absurd (omega (arith, fed 1 (omega arith), size, ap length host))
  stored_by_lem (one ∷ []) is (stands, finished, whole, rest) all_in fed =
      let here = same_place one.at stands in
      let fin : Finished g false img h.host 0 at = subst (Finished g false img h.host 0) here finished in
      record {
        mark = fin.mark;
        holds = λ i l.
            let first : 0 * passing g + i ≡ i = omega arith in
            fin.bytes i l ∙ ap (λ (j : ℕ). get_or h.host j 0) first ∙ ap (λ (y : List ℕ). get_or y i 0) host;
        others = λ i out.
            left.others i
            (rw is (
              (
                λ at_mark. out.mark (at_mark ∙ here),
                λ from below. out.bytes (omega (arith, here)) (omega (arith, here, whole)),
              ),
              tt,
            ))
            (rw none tt);
        size = left.size;
      }

  pub stored : Stored g at old img bytes
  stored =
      stored_by_lem h.finished refl left.finished all (λ k l. left.fed k (omega arith))
