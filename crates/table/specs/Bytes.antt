-- A table (RULES 2) has records of 16 bytes, whose numbers are little-endian, 32 bits each.
use Rattle.std.specs.Prelude.{ℕ, ◌+◌, ◌*◌, ◌/◌, List, ◌++◌, cond, leb, ltb, length, get_or}
use Rattle.std.specs.Int.{to_le_bytes, w32}
use Rattle.table.specs.declared.Record.{Record}

-- `word_at` is the 32-bit number at a byte position, little-endian; it is 0 where not all of its four bytes are there.
unfoldable pub word_at : List ℕ → ℕ → ℕ
word_at bytes at =
    cond (leb (at + 4) (length bytes))
    (get_or bytes at 0 + 256 * get_or bytes (at + 1) 0 + 65536 * get_or bytes (at + 2) 0 + 16777216 * get_or bytes (at + 3) 0)
    0

-- `record_bytes` is a record as a table has it.
abbrev pub record_bytes : Record → List ℕ
record_bytes r = to_le_bytes w32 r.label ++ to_le_bytes w32 r.work ++ to_le_bytes w32 r.period ++ to_le_bytes w32 r.reserved

-- `records_in` says how many whole records the bytes hold.
abbrev pub records_in : List ℕ → ℕ
records_in bytes = length bytes / 16

-- `no_record` is a record of zeros.
abbrev pub no_record : Record
no_record = record { label = 0; work = 0; period = 0; reserved = 0 }

-- Record k has its label at 0, work C at 4, period T at 8 and the reserved field at 12; it is zeros where there is no
-- record k.
unfoldable pub record_at : List ℕ → ℕ → Record
record_at bytes k =
    cond (ltb k (records_in bytes))
    (record {
      label = word_at bytes (16 * k);
      work = word_at bytes (16 * k + 4);
      period = word_at bytes (16 * k + 8);
      reserved = word_at bytes (16 * k + 12);
    })
    no_record
