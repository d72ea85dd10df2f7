-- What firmware lends to the library and what each call of include/beleduritz.h makes of it, by the contracts of
-- crates/capi/src/calls.rt: each line here is a call's clauses `word`, `bytes`, `first` and `second`.
-- Assumes nothing.
use Rattle.std.specs.Prelude.{ℕ, List, [], ◌∷◌}
use Rattle.fdc.specs.Calls.{power_on, read_port, write_port, dma_read, dma_write, note_change}
use Rattle.fdc.specs.Ticks.{tick_of}
use Rattle.pack.specs.Bytes.{record_in}
use Rattle.many_ticks.specs.Run.{many_ticks}
use Rattle.capi.specs.Calls.{set_in, word_back, bytes_from, cycle_from, power_word, power_bytes, image_from}
use Rattle.capi.specs.Calls.{long_from, first_from, second_from}

-- the record's bytes, and the images of drives 0 and 1
pub record World : Type 0 where
  pub bytes : List ℕ
  pub first : List ℕ
  pub second : List ℕ

-- the calls of the header by their names; and that the firmware puts other images in, which is no call of the library
pub data BelCall : Type 0 where
  power_on_law : ℕ → ℕ → BelCall
  read_port_law : ℕ → BelCall
  write_port_law : ℕ → ℕ → BelCall
  dma_read_law : ℕ → BelCall
  dma_write_law : ℕ → ℕ → BelCall
  tick : BelCall
  note_change_law : ℕ → BelCall
  tick_many : ℕ → BelCall
  lends : List ℕ → List ℕ → BelCall

-- the word that a call returns; 0 stands where nothing is called
unfoldable pub word_to : BelCall → World → ℕ
word_to (power_on_law head0 head1) w = power_word w.bytes (power_on head0 head1)
word_to (read_port_law offset) w = word_back w.bytes (read_port offset (record_in w.bytes))
word_to (write_port_law offset byte) w = word_back w.bytes (write_port offset byte (record_in w.bytes))
word_to (dma_read_law tc) w = word_back w.bytes (dma_read (set_in tc) (record_in w.bytes))
word_to (dma_write_law byte tc) w = word_back w.bytes (dma_write byte (set_in tc) (record_in w.bytes))
word_to tick w = word_back w.bytes (tick_of w.first w.second (record_in w.bytes))
word_to (note_change_law drive) w = word_back w.bytes (note_change drive (record_in w.bytes))
word_to (tick_many n) w = long_from n w.bytes w.first w.second
word_to (lends a b) w = 0

-- the record's bytes after it
unfoldable pub bytes_after : BelCall → World → List ℕ
bytes_after (power_on_law head0 head1) w = power_bytes w.bytes (power_on head0 head1)
bytes_after (read_port_law offset) w = bytes_from w.bytes (read_port offset (record_in w.bytes))
bytes_after (write_port_law offset byte) w = bytes_from w.bytes (write_port offset byte (record_in w.bytes))
bytes_after (dma_read_law tc) w = cycle_from w.bytes (dma_read (set_in tc) (record_in w.bytes))
bytes_after (dma_write_law byte tc) w = cycle_from w.bytes (dma_write byte (set_in tc) (record_in w.bytes))
bytes_after tick w = bytes_from w.bytes (tick_of w.first w.second (record_in w.bytes))
bytes_after (note_change_law drive) w = bytes_from w.bytes (note_change drive (record_in w.bytes))
bytes_after (tick_many n) w = bytes_from w.bytes (many_ticks n w.first w.second (record_in w.bytes)).answer
bytes_after (lends a b) w = w.bytes

-- and the images: only the two that are lent them change them
unfoldable pub first_after : BelCall → World → List ℕ
first_after (power_on_law head0 head1) w = w.first
first_after (read_port_law offset) w = w.first
first_after (write_port_law offset byte) w = w.first
first_after (dma_read_law tc) w = w.first
first_after (dma_write_law byte tc) w = w.first
first_after tick w = image_from 0 w.bytes w.first w.second w.first
first_after (note_change_law drive) w = w.first
first_after (tick_many n) w = first_from n w.bytes w.first w.second
first_after (lends a b) w = a

unfoldable pub second_after : BelCall → World → List ℕ
second_after (power_on_law head0 head1) w = w.second
second_after (read_port_law offset) w = w.second
second_after (write_port_law offset byte) w = w.second
second_after (dma_read_law tc) w = w.second
second_after (dma_write_law byte tc) w = w.second
second_after tick w = image_from 1 w.bytes w.first w.second w.second
second_after (note_change_law drive) w = w.second
second_after (tick_many n) w = second_from n w.bytes w.first w.second
second_after (lends a b) w = b

abbrev pub world_after : BelCall → World → World
world_after call w = record { bytes = bytes_after call w; first = first_after call w; second = second_after call w }

-- after a list of them
unfoldable pub world_left : List BelCall → World → World
world_left [] w = w
world_left (call ∷ calls) w = world_left calls (world_after call w)
