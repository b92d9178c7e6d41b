-- Laws of the scratch of a build (document 01, "Order of building"): how long it must be for a book.
use Prim.Native.Nat.{ℕ, ◌<◌}
use native.Mathlib.Omega.{arith}
use mathlib.Core.Path.{◌≡◌, sym, ◌∙◌}
use mathlib.Core.Bool.{true, true≢false}
use mathlib.Core.List.{List}
use lib.ListN.{length}
use Rattle.words.specs.Words.{Bytes}
use Rattle.words.proofs.WordLaws.{word_below}
use Rattle.types.specs.book.Contents.{book_ok}
use Rattle.types.specs.inside.rounds.Build.{AtMost}
use Rattle.types.proofs.book.BookLaws.{book_short}

-- a book that is too short for its counts is not good
pub few_short : {book : List ℕ} (t m : ℕ) → length book < 4 → AtMost book t m
few_short {book} t m l = record { types = λ q. absurd (none q); members = λ q. absurd (none q) }
  where
    none : book_ok book ≡ true → ⊥
    none q = true≢false (sym q ∙ sym (book_short book l))

-- no good book has more than 65,536 types or members
pub few_all : {book : List ℕ} → Bytes book → AtMost book 65536 65536
few_all {book} h =
    record {
      types = λ o. omega (arith, word_below 2 book 0 h);
      members = λ o. omega (arith, word_below 2 book 2 h);
    }
