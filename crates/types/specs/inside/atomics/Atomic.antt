-- The code's table of the fifteen atomics (document 01, "Atomic types"), row by row.
use Rattle.std.specs.Prelude.{List, map}
use Rattle.types.specs.atomics.Atomic.{row_of}
use Rattle.types.specs.declared.atomics.atomic.Atomic.{Atomic}
use Rattle.types.specs.declared.atomics.atomic.AtomicRow.{AtomicRow}

-- the rows of some atomics
unfoldable pub table_rows : List Atomic → List AtomicRow
table_rows l = map row_of l
