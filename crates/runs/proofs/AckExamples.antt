-- Write commands to their end (specs/AckExamples), by computation: one equation each.
-- Assumes nothing.
use native.Mathlib.Omega.{arith}
use mathlib.Core.Bool.{true, false}
use mathlib.Core.Path.{◌≡◌, refl}
use Rattle.runs.specs.AckExamples.{
  safe,
  safe_end,
  past_eot,
  past_eot_end,
  turning,
  turning_end,
  deleting,
  deleting_end,
  short,
  short_end,
  AckExamples,
}
use Rattle.runs.proofs.Open.{all_open}
use Rattle.runs.proofs.WholeLaws.{goes, wrote_in, sums, write_run, write_served}

safe_goes : wrote_in safe ≡ sums safe_end true
unfolding all_open goes
safe_goes = refl

past_eot_goes : wrote_in past_eot ≡ sums past_eot_end true
unfolding all_open goes
past_eot_goes = refl

turning_goes : wrote_in turning ≡ sums turning_end true
unfolding all_open goes
turning_goes = refl

deleting_goes : wrote_in deleting ≡ sums deleting_end true
unfolding all_open goes
deleting_goes = refl

short_goes : wrote_in short ≡ sums short_end false
unfolding all_open goes
short_goes = refl

pub ack_examples : AckExamples
unfolding all_open
ack_examples = record {
  safe_run =
      write_run safe safe_end _ _ true refl (record { accepted = refl; moves = refl; writes = refl }) refl
      (omega arith) safe_goes;
  safe_served = write_served safe safe_end safe_goes;
  past_eot_run =
      write_run past_eot past_eot_end _ _ true refl (record { accepted = refl; moves = refl; writes = refl }) refl
      (omega arith) past_eot_goes;
  past_eot_served = write_served past_eot past_eot_end past_eot_goes;
  turning_run =
      write_run turning turning_end _ _ true refl (record { accepted = refl; moves = refl; writes = refl }) refl
      (omega arith) turning_goes;
  turning_served = write_served turning turning_end turning_goes;
  deleting_run =
      write_run deleting deleting_end _ _ true refl (record { accepted = refl; moves = refl; writes = refl }) refl
      (omega arith) deleting_goes;
  deleting_served = write_served deleting deleting_end deleting_goes;
  short_run =
      write_run short short_end _ _ false refl (record { accepted = refl; moves = refl; writes = refl }) refl
      (omega arith) short_goes;
}
