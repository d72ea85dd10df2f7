-- What a replay counts (house: a last line counts calls, refusals and differences where any value was recorded).
-- Assumes nothing.
use Rattle.std.specs.Prelude.{ℕ, ◌+◌, Bool, true, false, cond, ltb, List, ◌++◌, codes, decimal}
use Rattle.script.specs.declared.tally.Tally.{Tally}

-- a count of 64 bits stays at its largest number
unfoldable pub one_more : ℕ → ℕ
one_more n = cond (ltb n 18446744073709551615) (n + 1) n

unfoldable pub more_if : Bool → ℕ → ℕ
more_if on n = cond on (one_more n) n

abbrev pub no_tally : Tally
no_tally = record { calls = 0; refusals = 0; differences = 0; recorded = false }

-- a call, refused or not
unfoldable pub tallied_of : Bool → Tally → Tally
tallied_of refused t =
    record {
      calls = one_more t.calls;
      refusals = more_if refused t.refusals;
      differences = t.differences;
      recorded = t.recorded;
    }

-- a recorded value, met or not
unfoldable pub compared_of : Bool → Tally → Tally
compared_of differs t =
    record {
      calls = t.calls;
      refusals = t.refusals;
      differences = more_if differs t.differences;
      recorded = true;
    }

-- the counts, in words
abbrev pub tally_text : Tally → List ℕ
tally_text t =
    codes "calls " ++ (decimal t.calls ++ (codes " refusals " ++ (decimal t.refusals ++ (codes " differences " ++ decimal t.differences))))
