-- The library over every list of its calls: the bytes hold the record that document 01's calls lead to, the images are
-- those that its ticks left, and the words are its answers; a refusal keeps all three, but 5, which writes a fresh
-- record (01 Refusals). So what is proved of document 01's calls holds of the firmware's bytes.
-- Memory inside one call is not spoken of: that is the compiler's part.
-- Assumes nothing.
use Rattle.std.specs.Prelude.{ℕ, ◌/◌, ◌%◌, ◌≤◌, ◌<◌, false, List, ◌≡◌, length, drop, replicate}
use Rattle.fdc.specs.Calls.{power_on}
use Rattle.fdc.specs.Record.{fresh_of}
use Rattle.reached.specs.Runs.{run_calls}
use Rattle.demands.specs.Quiet.{AllBytes}
use Rattle.pack.specs.Back.{HoldsRecord, Typed}
use Rattle.pack.specs.Bytes.{byte_at, record_size, record_in, is_record}
use Rattle.pack.specs.Places.{version, version_at}
use Rattle.capi.specs.Word.{no_record}
use Rattle.firmware.specs.Calls.{World, BelCall, power_on_law, read_port_law, write_port_law, dma_read_law, dma_write_law, tick}
use Rattle.firmware.specs.Calls.{note_change_law, tick_many, lends, word_to, world_after, world_left}
use Rattle.firmware.specs.Made.{Box, box_left, calls_made, word_by}

-- what is lent holds that record, and those are the images
pub record ShowsBox (w : World) (x : Box) : Type 0 where
  pub record_is : HoldsRecord w.bytes x.controller
  pub first : w.first ≡ x.first
  pub second : w.second ≡ x.second

-- after a list of calls, and of the call that is made next, whichever it is
pub record FollowsBox (w : World) (x : Box) (calls : List BelCall) : Type 0 where
  pub shows : ShowsBox (world_left calls w) (box_left calls x)
  pub run : (box_left calls x).controller ≡ run_calls (calls_made calls x) x.controller
  pub word : (next : BelCall) → word_to next (world_left calls w) ≡ word_by next (box_left calls x)

-- from any bytes that hold a record, reached from power-on or not, damaged or not: every record that is read from bytes
-- is `Typed`, as `AnyBytes` says
abbrev pub OverLists : Type 0
OverLists =
    (w : World) (x : Box) → ShowsBox w x → Typed x.controller → (calls : List BelCall) → FollowsBox w x calls

-- every call but power-on
abbrev pub NeedsRecord : BelCall → Type 0
NeedsRecord (power_on_law head0 head1) = ⊥
NeedsRecord (read_port_law offset) = Unit {0}
NeedsRecord (write_port_law offset byte) = Unit {0}
NeedsRecord (dma_read_law tc) = Unit {0}
NeedsRecord (dma_write_law byte tc) = Unit {0}
NeedsRecord tick = Unit {0}
NeedsRecord (note_change_law drive) = Unit {0}
NeedsRecord (tick_many n) = Unit {0}
NeedsRecord (lends a b) = ⊥

-- whatever the bytes are
pub record AnyBytes (w : World) : Type 0 where
  -- a record in them is one that the lists above start from
  pub typed : AllBytes w.bytes → Typed (record_in w.bytes)
  -- enough of them hold a record from power-on on, refused or not
  pub powered : record_size ≤ length w.bytes → (head0 head1 : ℕ)
      → ShowsBox (world_after (power_on_law head0 head1) w)
      (record { controller = (power_on head0 head1).controller; first = w.first; second = w.second })
      × Typed (power_on head0 head1).controller
  -- too few, and those that are no record, stay: refusal 4 with both lines off
  pub short : length w.bytes < record_size → (head0 head1 : ℕ)
      → (word_to (power_on_law head0 head1) w ≡ no_record) × (world_after (power_on_law head0 head1) w ≡ w)
  pub no_record_law : is_record w.bytes ≡ false → (call : BelCall) → NeedsRecord call
      → (word_to call w ≡ no_record) × (world_after call w ≡ w)
  -- such are those of another version, and all zeros, which memory that was never powered on may be
  pub another_version : (byte_at w.bytes version_at ≡ version → ⊥) → is_record w.bytes ≡ false
  pub zeros : (n : ℕ) → w.bytes ≡ replicate n 0 → is_record w.bytes ≡ false
  -- those behind the record stay, over every list
  pub behind : (calls : List BelCall) → drop record_size (world_left calls w).bytes ≡ drop record_size w.bytes

-- the refusal's number in a word, bits 8 to 15 (include/beleduritz.h, BEL_REFUSAL)
abbrev pub refusal_in : ℕ → ℕ
refusal_in word = word / 0x100 % 0x100

-- 01 Refusals: the record as handed in, images stay; 5 has a fresh record with heads at 0
abbrev pub Fresh : World → World → Type 0
Fresh w after = HoldsRecord after.bytes (fresh_of 0 0) × ((after.first ≡ w.first) × (after.second ≡ w.second))

abbrev pub Left : ℕ → World → World → Type 0
Left number w after = (number ≡ 5 → Fresh w after) × ((number ≡ 5 → ⊥) → after ≡ w)

-- of any bytes, be they a record or not, and so of each call of a list: what is lent is bytes, as its type has it
abbrev pub RefusalKeeps : Type 0
RefusalKeeps =
    (w : World) → AllBytes w.bytes → (call : BelCall) → (refusal_in (word_to call w) ≡ 0 → ⊥)
    → Left (refusal_in (word_to call w)) w (world_after call w)
