-- The judge on small images (02 2026-04), computed in the check. The proofs are in proofs/Examples.antt.
-- Assumes nothing.
use Rattle.std.specs.Prelude.{ℕ, List, [], ◌∷◌, ◌++◌, ◌≡◌, replicate, set, take, Ok}
use Rattle.image.specs.Disk.{header_of}
use Rattle.image.specs.Examples.{disk, sample}
use Rattle.judging.specs.declared.fault.Kind.TheVariants.{Header, Length, Track, Place, Mark, Twice, End}
use Rattle.judging.specs.Verdict.{fault}
use Rattle.judging.specs.Judge.{judge_of}

-- mark, C 0 H 0 R N, 256 bytes
abbrev pub slot : ℕ → ℕ → ℕ → List ℕ
slot mark r n = mark ∷ 0 ∷ 0 ∷ r ∷ n ∷ replicate 256 0

-- one track of four slots, its field 2 + 4 x 261 = 1046 bytes long, 04 16; slots at 13, 274, 535 and 796
abbrev pub track : List ℕ → List ℕ → List ℕ → List ℕ → List ℕ
track a b c d =
    header_of (disk 1 1 4 1) ++ ((0x02 ∷ 0x04 ∷ 0x16 ∷ 0 ∷ 0 ∷ []) ++ (a ++ (b ++ (c ++ (d ++ (0x03 ∷ 0 ∷ 0 ∷ []))))))

pub record JudgeExamples : Type 0 where
  -- under eight bytes: the first wrong byte, or the end
  pub empty : judge_of [] ≡ fault Header 0
  pub seven : judge_of (take 7 (sample 2)) ≡ fault Header 7
  pub short_wrong : judge_of (0x01 ∷ 0x00 ∷ 0x04 ∷ []) ≡ fault Header 2
  -- N 0, and 83 cylinders
  pub n_0 : judge_of (header_of (disk 1 1 1 0)) ≡ fault Header 6
  pub cylinders_83 : judge_of (set (sample 2) 3 83) ≡ fault Header 3
  -- eight right bytes and no more; a byte short; a byte more. The length hides a wrong mark before it
  pub eight : judge_of (header_of (disk 1 1 2 1)) ≡ fault Length 8
  pub shorter : judge_of (take 537 (set (sample 2) 13 6)) ≡ fault Length 537
  pub longer : judge_of (sample 2 ++ (0 ∷ [])) ≡ fault Length 538
  -- sectors 1 and 2; and each later kind
  pub sound : judge_of (sample 2) ≡ Ok tt
  pub tag : judge_of (set (sample 2) 8 1) ≡ fault Track 8
  pub low_length : judge_of (set (sample 2) 10 0) ≡ fault Track 10
  pub side : judge_of (set (sample 2) 12 1) ≡ fault Place 12
  pub mark : judge_of (set (sample 2) 274 6) ≡ fault Mark 274
  pub twice : judge_of (sample 1) ≡ fault Twice 274
  pub end : judge_of (set (sample 2) 537 1) ≡ fault End 537
  -- addresses A B B A: slot 2, not 3
  pub abba : judge_of (track (slot 1 1 1) (slot 1 2 1) (slot 1 2 1) (slot 1 1 1)) ≡ fault Twice 535
  -- one address under marks 3 and 5 is twice; another N is another address; a slot with mark 0 has none
  pub marks : judge_of (track (slot 3 1 1) (slot 1 2 1) (slot 1 3 1) (slot 5 1 1)) ≡ fault Twice 796
  pub other_n : judge_of (track (slot 1 1 1) (slot 1 1 2) (slot 1 1 3) (slot 1 2 1)) ≡ Ok tt
  pub no_address_law : judge_of (track (slot 1 1 1) (slot 0 1 1) (slot 2 2 1) (slot 0 1 1)) ≡ Ok tt
