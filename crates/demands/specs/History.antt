-- What a write command has done by any of its calls: the bytes that the host handed over, the sectors finished, the one
-- begun. All of it is a function of the list of calls: of their answers, and of the stores that the ticks made.
-- Assumes nothing.
use Rattle.image.specs.Lent.{put_at}
use Rattle.std.specs.Prelude.{ℕ, Bool, true, false, ◌&&◌, ◌||◌, cond, List, [], ◌∷◌, ◌++◌, eqb, None, Some}
use Rattle.image.specs.Lent.{Effect}
use Rattle.fdc.specs.declared.answer.Reply.{Reply}
use Rattle.fdc.specs.declared.answer.Reply.TheVariants.{Done, Byte, Refused}
use Rattle.fdc.specs.declared.record.Controller.{Controller}
use Rattle.reached.specs.Runs.{Call, powers, reads, writes, takes, gives, ticks, notes, answer_to, after}
use Rattle.fdc.specs.Ticks.{ruled_of}

-- a sector finished: where its mark stands, and the bytes stored
pub record Sector : Type 0 where
  pub at : ℕ
  pub bytes : List ℕ

-- the sector begun and not finished, if there is one, with the bytes stored so far
pub data Begun : Type 0 where
  no_one : Begun
  some_of : ℕ → List ℕ → Begun

-- finished: the last one first. told: TC came with a byte that was taken
pub record History : Type 0 where
  pub host : List ℕ
  pub told : Bool
  pub finished : List Sector
  pub begun : Begun

abbrev pub no_history : History
no_history = record { host = []; told = false; finished = []; begun = no_one }

-- a store with no sector begun begins one; each later one is a byte of it, until its mark is stored again
abbrev pub stored_by : ℕ → ℕ → Begun → History → History
stored_by at byte no_one h =
    record { host = h.host; told = h.told; finished = h.finished; begun = some_of at [] }
stored_by at byte (some_of mark bytes) h =
    cond (eqb at mark)
    (record {
      host = h.host;
      told = h.told;
      finished = record { at = mark; bytes = bytes } ∷ h.finished;
      begun = no_one;
    })
    (record { host = h.host; told = h.told; finished = h.finished; begun = some_of mark (bytes ++ (byte ∷ [])) })

abbrev pub noted_store : Effect → History → History
noted_store None h = h
noted_store (Some put) h = stored_by put.at put.byte h.begun h

abbrev pub handed : ℕ → Bool → History → History
handed byte tc h =
    record { host = h.host ++ (byte ∷ []); told = h.told || tc; finished = h.finished; begun = h.begun }

abbrev pub taken : Reply → Bool
taken Done = true
taken (Byte byte) = true
taken (Refused refusal) = false

-- a byte comes by a DMA write cycle or, in non-DMA, by a write to the FIFO, if it is not refused
unfoldable pub history_by : Call → Controller → History → History
history_by (powers head0 head1) c h = h
history_by (reads offset) c h = h
history_by (writes offset byte) c h =
    cond (eqb offset 5 && taken (answer_to (writes offset byte) c).reply) (handed byte false h) h
history_by (takes tc) c h = h
history_by (gives byte tc) c h = cond (taken (answer_to (gives byte tc) c).reply) (handed byte tc h) h
history_by (ticks a b) c h = noted_store (ruled_of a b c).effect h
history_by (notes drive) c h = h

unfoldable pub history_of : List Call → Controller → History → History
history_of [] c h = h
history_of (call ∷ calls) c h = history_of calls (after call c) (history_by call c h)
