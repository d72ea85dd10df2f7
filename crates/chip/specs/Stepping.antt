-- Ticks per step: document 01, Stepping, first sentence. The steps themselves are the record's.
-- Assumes nothing.
use Rattle.std.specs.Prelude.{◌≡◌, [], ◌∷◌, map, ℕ, ◌+◌, ◌-◌, ◌*◌, ◌/◌}

-- 01 Stepping: 62.5 x (16 - SRT) rounded up, in whole numbers: half of 125 x (16 - SRT), and half a tick more where
-- that is odd
abbrev pub step_ticks : ℕ → ℕ
step_ticks srt = (125 * (16 - srt) + 1) / 2

-- 01 Stepping, 02 2026-03: by SRT 0 to 15. Where 813 comes from: SRT 3 gives 62.5 x 13 = 812.5, rounded up. So with every
-- odd SRT, whose product ends in a half; an even one's is whole, as 62.5 x 14 = 875 with SRT 2.
abbrev pub StepTimes : Type 0
StepTimes =
    map step_ticks (0 ∷ 1 ∷ 2 ∷ 3 ∷ 4 ∷ 5 ∷ 6 ∷ 7 ∷ 8 ∷ 9 ∷ 10 ∷ 11 ∷ 12 ∷ 13 ∷ 14 ∷ 15 ∷ [])
    ≡ (1000 ∷ 938 ∷ 875 ∷ 813 ∷ 750 ∷ 688 ∷ 625 ∷ 563 ∷ 500 ∷ 438 ∷ 375 ∷ 313 ∷ 250 ∷ 188 ∷ 125 ∷ 63 ∷ [])
