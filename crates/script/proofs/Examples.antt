-- Lines of a log and what they say, computed by the definitions of specs/.
-- Assumes nothing.
use mathlib.Core.Bool.{true, false}
use mathlib.Core.List.{[], ◌∷◌}
use mathlib.Core.Path.{◌≡◌, refl}
use Rattle.std.specs.Prelude.{Ok, Err}
use Rattle.log_lines.specs.Hex.{hex_of, hex_number, hex_in}
use Rattle.log_lines.specs.Line.{text_length}
use Rattle.log_lines.specs.Words.{run, word_from, letter_in}
use Rattle.script.specs.Decimal.{digit_after, byte_after, count_from, decimal_in, head_by}
use Rattle.script.specs.Line.{
  pair_in,
  script_ended,
  recorded_from,
  arrow_from,
  script_read,
  take_at_of,
  take_from,
  give_at,
  tc_from,
  give_from,
  change_from,
  ticks_from,
  head_from,
  power_from,
  letter_call,
  script_call,
  script_line,
}
use Rattle.script.specs.declared.line.Expected.TheVariants as expected
use Rattle.script.specs.declared.line.Line.TheVariants.{Power, Recorded, Take, Give, Change, Ticks}

-- `p 0 81`
pub a_power : script_line (0x70 ∷ 0x20 ∷ 0x30 ∷ 0x20 ∷ 0x38 ∷ 0x31 ∷ []) ≡ Ok (Power 0 81)
unfolding script_line text_length script_call letter_call script_ended pair_in run word_from letter_in hex_of hex_number hex_in power_from
    head_from head_by digit_after byte_after count_from decimal_in
a_power = refl

-- `r 4 -> 80`
pub a_recorded : script_line (0x72 ∷ 0x20 ∷ 0x34 ∷ 0x20 ∷ 0x2D ∷ 0x3E ∷ 0x20 ∷ 0x38 ∷ 0x30 ∷ []) ≡ Ok (Recorded 0x04 0x80)
unfolding script_line text_length script_call letter_call script_ended pair_in run word_from letter_in hex_of hex_number hex_in script_read
    arrow_from recorded_from
a_recorded = refl

-- `dr 1`
pub a_take : script_line (0x64 ∷ 0x72 ∷ 0x20 ∷ 0x31 ∷ []) ≡ Ok (Take true)
unfolding script_line text_length script_call letter_call script_ended pair_in run word_from letter_in hex_of hex_number hex_in take_from
    take_at_of
a_take = refl

-- `dw FE 0`
pub a_give : script_line (0x64 ∷ 0x77 ∷ 0x20 ∷ 0x46 ∷ 0x45 ∷ 0x20 ∷ 0x30 ∷ []) ≡ Ok (Give 0xFE false)
unfolding script_line text_length script_call letter_call script_ended pair_in run word_from letter_in hex_of hex_number hex_in give_from
    tc_from give_at
a_give = refl

-- `c 1`
pub a_change : script_line (0x63 ∷ 0x20 ∷ 0x31 ∷ []) ≡ Ok (Change 1)
unfolding script_line text_length script_call letter_call script_ended pair_in run word_from letter_in hex_of hex_number hex_in change_from
a_change = refl

-- `t 1000`
pub a_thousand_ticks : script_line (0x74 ∷ 0x20 ∷ 0x31 ∷ 0x30 ∷ 0x30 ∷ 0x30 ∷ []) ≡ Ok (Ticks 1000)
unfolding script_line text_length script_call letter_call script_ended pair_in run word_from letter_in hex_of hex_number hex_in ticks_from
    digit_after byte_after count_from decimal_in
a_thousand_ticks = refl

-- `dr 2`
pub no_tc : script_line (0x64 ∷ 0x72 ∷ 0x20 ∷ 0x32 ∷ []) ≡ Err expected.Tc
unfolding script_line text_length script_call letter_call script_ended pair_in run word_from letter_in hex_of hex_number hex_in take_from
    take_at_of
no_tc = refl

-- `t 1A`
pub no_count : script_line (0x74 ∷ 0x20 ∷ 0x31 ∷ 0x41 ∷ []) ≡ Err expected.Count
unfolding script_line text_length script_call letter_call script_ended pair_in run word_from letter_in hex_of hex_number hex_in ticks_from
    digit_after byte_after count_from decimal_in
no_count = refl

-- `p 256 0`
pub no_head : script_line (0x70 ∷ 0x20 ∷ 0x32 ∷ 0x35 ∷ 0x36 ∷ 0x20 ∷ 0x30 ∷ []) ≡ Err expected.Head
unfolding script_line text_length script_call letter_call script_ended pair_in run word_from letter_in hex_of hex_number hex_in power_from
    head_by digit_after byte_after count_from decimal_in
no_head = refl

-- `r 4 80`
pub script_no_end : script_line (0x72 ∷ 0x20 ∷ 0x34 ∷ 0x20 ∷ 0x38 ∷ 0x30 ∷ []) ≡ Err expected.End
unfolding script_line text_length script_call letter_call script_ended pair_in run word_from letter_in hex_of hex_number hex_in script_read
    arrow_from
script_no_end = refl
