-- The word says value, refusal number and lines, each in its place (house).
-- Assumes nothing.
use Prim.Native.Nat.{ℕ, ◌+◌, ◌*◌, ◌/◌, ◌%◌, ◌≤◌, ◌<◌}
use mathlib.Core.Bool.{Bool, true, false, cond}
use mathlib.Core.Path.{◌≡◌}
use native.Mathlib.Omega.{arith}
use Rattle.chip.specs.declared.refusal.Refusal.{Refusal}
use Rattle.chip.specs.declared.refusal.Refusal.TheVariants.{Port, Turn, Line, Damaged, Head, Drive}
use Rattle.chip.specs.Refusals.{number_of}
use Rattle.fdc.specs.declared.answer.Reply.{Reply}
use Rattle.fdc.specs.declared.answer.Reply.TheVariants.{Done, Byte, Refused}
use Rattle.fdc.specs.declared.record.Controller.{Controller}
use Rattle.fdc.specs.Answer.{value_of, number_in}
use Rattle.fdc.specs.Registers.{int_of, drq_of}
use Rattle.capi.specs.Blocks.{block_word}
use Rattle.capi.specs.Word.{word_in}

refusal_small : (f : Refusal) → number_of f ≤ 6
refusal_small Port = omega arith
refusal_small Turn = omega arith
refusal_small Line = omega arith
refusal_small Damaged = omega arith
refusal_small Head = omega arith
refusal_small Drive = omega arith

number_small : (reply : Reply) → number_in reply ≤ 6
number_small Done = omega arith
number_small (Byte byte) = omega arith
number_small (Refused f) = refusal_small f

-- four numbers, each below its width
pub record Apart (word v n i d : ℕ) : Type 0 where
  pub value : word % 0x100 ≡ v
  pub number : word / 0x100 % 0x100 ≡ n
  pub int : word / 0x10000 % 2 ≡ i
  pub drq : word / 0x20000 ≡ d

apart : (v n i d : ℕ) → v < 0x100 → n ≤ 6 → i ≤ 1 → d ≤ 1
    → Apart (v + 0x100 * n + 0x10000 * i + 0x20000 * d) v n i d
apart v n i d hv hn hi hd =
    record { value = omega arith; number = omega arith; int = omega arith; drq = omega arith }

pub word_apart : (reply : Reply) (int drq : Bool) → value_of reply < 0x100
    → Apart (word_in reply int drq) (value_of reply) (number_in reply) (cond int 1 0) (cond drq 1 0)
unfolding word_in
word_apart reply false false h = apart (value_of reply) (number_in reply) 0 0 h (number_small reply) (omega arith)
    (omega arith)
word_apart reply false true h = apart (value_of reply) (number_in reply) 0 1 h (number_small reply) (omega arith)
    (omega arith)
word_apart reply true false h = apart (value_of reply) (number_in reply) 1 0 h (number_small reply) (omega arith)
    (omega arith)
word_apart reply true true h = apart (value_of reply) (number_in reply) 1 1 h (number_small reply) (omega arith)
    (omega arith)

-- 02 2026-01: a block call's word has goodness where others have the value
block_apart : (good int drq : Bool) (number : ℕ) → number ≤ 6
    → Apart (cond good 1 0 + 0x100 * number + cond int 0x10000 0 + cond drq 0x20000 0) (cond good 1 0) number
    (cond int 1 0) (cond drq 1 0)
block_apart false false false n h = apart 0 n 0 0 (omega arith) h (omega arith) (omega arith)
block_apart false false true n h = apart 0 n 0 1 (omega arith) h (omega arith) (omega arith)
block_apart false true false n h = apart 0 n 1 0 (omega arith) h (omega arith) (omega arith)
block_apart false true true n h = apart 0 n 1 1 (omega arith) h (omega arith) (omega arith)
block_apart true false false n h = apart 1 n 0 0 (omega arith) h (omega arith) (omega arith)
block_apart true false true n h = apart 1 n 0 1 (omega arith) h (omega arith) (omega arith)
block_apart true true false n h = apart 1 n 1 0 (omega arith) h (omega arith) (omega arith)
block_apart true true true n h = apart 1 n 1 1 (omega arith) h (omega arith) (omega arith)

pub block_word_apart : (good : Bool) (number : ℕ) (c : Controller) → number ≤ 6
    → Apart (block_word good number c) (cond good 1 0) number (cond (int_of c) 1 0) (cond (drq_of c) 1 0)
unfolding block_word
block_word_apart good number c h = block_apart good (int_of c) (drq_of c) number h
