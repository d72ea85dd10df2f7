-- Read commands to their end (specs/HandedExamples), by computation: one equation each.
-- Assumes nothing.
use native.Mathlib.Omega.{arith}
use mathlib.Core.Bool.{true, false}
use mathlib.Core.Path.{◌≡◌, refl}
use Rattle.runs.specs.HandedExamples.{
  past_eot,
  past_eot_end,
  turning,
  turning_end,
  whole,
  whole_end,
  late,
  late_end,
  other,
  other_end,
  HandedExamples,
}
use Rattle.runs.proofs.Open.{all_open}
use Rattle.runs.proofs.WholeLaws.{goes, took_in, sums, read_run, read_served}

past_eot_goes : took_in past_eot ≡ sums past_eot_end true
unfolding all_open goes
past_eot_goes = refl

turning_goes : took_in turning ≡ sums turning_end true
unfolding all_open goes
turning_goes = refl

whole_goes : took_in whole ≡ sums whole_end true
unfolding all_open goes
whole_goes = refl

late_goes : took_in late ≡ sums late_end false
unfolding all_open goes
late_goes = refl

other_goes : took_in other ≡ sums other_end true
unfolding all_open goes
other_goes = refl

pub handed_examples : HandedExamples
unfolding all_open
handed_examples = record {
  past_eot_run =
      read_run past_eot past_eot_end _ _ true refl (record { accepted = refl; moves = refl; reads = refl }) refl
      (omega arith) past_eot_goes;
  past_eot_served = read_served past_eot past_eot_end past_eot_goes;
  turning_run =
      read_run turning turning_end _ _ true refl (record { accepted = refl; moves = refl; reads = refl }) refl
      (omega arith) turning_goes;
  turning_served = read_served turning turning_end turning_goes;
  whole_run =
      read_run whole whole_end _ _ true refl (record { accepted = refl; moves = refl; reads = refl }) refl
      (omega arith) whole_goes;
  whole_served = read_served whole whole_end whole_goes;
  late_run =
      read_run late late_end _ _ false refl (record { accepted = refl; moves = refl; reads = refl }) refl
      (omega arith) late_goes;
  other_run =
      read_run other other_end _ _ true refl (record { accepted = refl; moves = refl; reads = refl }) refl
      (omega arith) other_goes;
  other_served = read_served other other_end other_goes;
}
