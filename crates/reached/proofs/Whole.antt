-- Whole commands on the definitions, by computation.
-- Assumes nothing.
use mathlib.Core.Path.{refl}
use Rattle.reached.specs.Whole.{ReadWhole, TurnedWhole, CutWhole, ReadAfterCut, FormattedWhole}
use Rattle.reached.proofs.Open.{calls_open}

pub read_whole : ReadWhole
unfolding calls_open
read_whole = record { read_bytes_law = refl; read_result = refl }

pub turned_whole : TurnedWhole
unfolding calls_open
turned_whole = record {
  both_side_0_first = refl;
  both_side_0_last = refl;
  both_side_1_first = refl;
  both_side_1_last = refl;
  both_result = refl;
}

pub cut_whole : CutWhole
unfolding calls_open
cut_whole = record { cut_mark = refl; cut_bytes = refl; cut_before = refl; cut_address = refl; cut_behind = refl }

pub read_after_cut : ReadAfterCut
unfolding calls_open
read_after_cut = record { cut_read = refl }

pub formatted_whole : FormattedWhole
unfolding calls_open
formatted_whole = record { formatted_slot = refl; formatted_left = refl; formatted_result = refl }
