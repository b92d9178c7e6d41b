-- Laws of a run of stores (`sets`) and of a part of a list (`part`), over any element. A run of stores changes just
-- its own places; runs that meet are one run; a part is read from the front, one element after the other.
use Prim.Native.Nat.{ℕ, zero, suc, ◌+◌, ◌-◌, ◌≤◌, ◌<◌, min}
use native.Mathlib.Decide.{dec_le}
use native.Mathlib.Nat.{add-sub_cancel_left, add-zero}
use native.Mathlib.Omega.{arith}
use mathlib.Core.Bool.{Bool, true, false, cond}
use mathlib.Core.Path.{◌≡◌, refl, sym, ap, ◌∙◌}
use mathlib.Core.List.{List, [], ◌∷◌, ◌++◌, append_assoc}
use mathlib.Core.Logic.{◌⊎◌, inl, inr, ⊎_elim}
use borrow.Author.Tests.{eqb-false, eqb-true}
use lib.Dec.{eqb}
use lib.ListN.{length, get_or, set, take, drop, replicate, length-append, length-take, length-drop}
use lib.ListN.{get_or-append, get_or-eq_default, take-append-drop}
use lib.Seq.{sets, sets-eq, set_comm, set_split, drop-cons, drop-drop, get_or-append-add, get_or-set_other}
use lib.Seq.{get_or-set_same}
use lib.Seq.{length-take-le, take_all, take-length, take-set-le, take-append_seam, drop-set-add, drop-set-lt, drop_at}
use lib.Seq.{drop-append-add, drop-append_seam}
use Rattle.words.specs.Words.{part}

module _ {A : Type 0} where
  -- two runs, the second where the first ends, are one
  pub sets_append : (l : List A) (i : ℕ) (vs ws : List A) → sets l i (vs ++ ws) ≡ sets (sets l i vs) (i + length vs) ws
  sets_append l i [] ws = rw add-zero
  sets_append l i (v ∷ vs) ws =
      let e : i + suc (length vs) ≡ suc i + length vs = omega arith in
      rw e (sets_append (set l i v) (suc i) vs ws)

  set_past : (l : List A) (i j : ℕ) (b : A) (vs : List A) → i + length vs ≤ j
      → set (sets l i vs) j b ≡ sets (set l j b) i vs
  set_past l i j b [] h = refl
  set_past l i j b (v ∷ vs) h =
      set_past (set l i v) (suc i) j b vs (omega arith)
      ∙ ap (λ (m : List A). sets m (suc i) vs) (set_comm l i j v b (λ e. omega arith))

  -- two runs that are apart, in either order
  pub sets_swap : (l : List A) (i j : ℕ) (vs ws : List A) → i + length vs ≤ j
      → sets (sets l i vs) j ws ≡ sets (sets l j ws) i vs
  sets_swap l i j vs [] h = refl
  sets_swap l i j vs (w ∷ ws) h =
      ap (λ (m : List A). sets m (suc j) ws) (set_past l i j w vs h) ∙ sets_swap (set l j w) i (suc j) vs ws
      (omega arith)

  -- what stands at a place of the run
  pub get_d_sets : (l : List A) (i : ℕ) (vs : List A) (j : ℕ) (d : A) → i + length vs ≤ length l → j < length vs
      → get_or (sets l i vs) (i + j) d ≡ get_or vs j d
  get_d_sets l i vs j d h k =
      let n : length (take i l) ≡ i = length-take-le i l (omega arith) in
      let e : i + j ≡ length (take i l) + j = omega arith in
      rw (sets-eq vs l i h, append_assoc, e)
      (get_or-append-add (take i l) (vs ++ drop (i + length vs) l) j d ∙ get_or-append vs _ d j k)

  -- what stands beside the run
  pub get_d_beside : (l : List A) (i : ℕ) (vs : List A) (j : ℕ) (d : A) → (j < i) ⊎ (i + length vs ≤ j)
      → get_or (sets l i vs) j d ≡ get_or l j d
  get_d_beside l i [] j d h = refl
  get_d_beside l i (v ∷ vs) j d h =
      get_d_beside (set l i v) (suc i) vs j d (⊎_elim (λ a. inl (omega arith)) (λ b. inr (omega arith)) h)
      ∙ get_or-set_other l i j v d (λ e. ⊎_elim (λ a. omega arith) (λ b. omega arith) h)

  -- a part that was lent and came back as vs
  pub lent : (l : List A) (i : ℕ) (vs : List A) → i + length vs ≤ length l
      → take i l ++ (vs ++ drop (length vs) (drop i l)) ≡ sets l i vs
  lent l i vs h = rw (sets-eq vs l i h, append_assoc, drop-drop (length vs) i l)

  -- a part of n elements that lies inside a list has n elements
  pub length_part : (s : List A) (at n : ℕ) → at + n ≤ length s → length (part s at n) ≡ n
  unfolding part
  length_part s at n h = simp (length-take, length-drop) (omega arith)

  -- a part beside a store, and beside a run of stores
  part_set : (l : List A) (i : ℕ) (a : A) (at n : ℕ) → (at + n ≤ i) ⊎ (i < at) → part (set l i a) at n ≡ part l at n
  unfolding part
  part_set l i a at n (inl h) =
      let e : i ≡ at + (i - at) = omega arith in
      ap (λ (k : ℕ). take n (drop at (set l k a))) e ∙ ap (λ (m : List A). take n m) (drop-set-add at l (i - at) a)
      ∙ take-set-le n (drop at l) (i - at) a (omega arith)
  part_set l i a at n (inr h) = ap (λ (m : List A). take n m) (drop-set-lt at l i a h)

  -- a part that lies beside a run of stores stays as it was
  pub part_beside : (l : List A) (i : ℕ) (vs : List A) (at n : ℕ) → (at + n ≤ i) ⊎ (i + length vs ≤ at)
      → part (sets l i vs) at n ≡ part l at n
  part_beside l i [] at n h = refl
  part_beside l i (v ∷ vs) at n h =
      part_beside (set l i v) (suc i) vs at n (⊎_elim (λ a. inl (omega arith)) (λ b. inr (omega arith)) h)
      ∙ part_set l i v at n (⊎_elim (λ a. inl (omega arith)) (λ b. inr (omega arith)) h)

  -- the part that a run of stores fills is what was stored
  pub part_run : (l : List A) (i : ℕ) (vs : List A) → i + length vs ≤ length l → part (sets l i vs) i (length vs) ≡ vs
  unfolding part
  part_run l i vs h =
      let n : length (take i l) ≡ i = length-take-le i l (omega arith) in
      rw (sets-eq vs l i h, append_assoc, drop_at (take i l) (vs ++ drop (i + length vs) l) i n)
      (take-append_seam vs _)

  -- the first of the elements that are left, and those after it
  pub part_cons : (s : List A) (at n i : ℕ) (d : A) → i < n → at + n ≤ length s
      → part s (at + i) (n - i) ≡ get_or s (at + i) d ∷ part s (at + (i + 1)) (n - (i + 1))
  unfolding part
  part_cons s at n i d l h =
      let e : n - i ≡ suc (n - (i + 1)) = omega arith in
      let f : at + (i + 1) ≡ suc (at + i) = omega arith in
      rw (e, f, drop-cons s (at + i) d (omega arith))

  -- eight stores, one after the other, are a row of eight
  pub eight : (t : List A) (a : ℕ) (u v w x y z p q : A)
      → set (set (set (set (set (set (set (set t a u) (a + 1) v) (a + 2) w) (a + 3) x) (a + 4) y) (a + 5) z) (a + 6)
      p) (a + 7) q
      ≡ sets t a (u ∷ v ∷ w ∷ x ∷ y ∷ z ∷ p ∷ q ∷ [])
  eight t a u v w x y z p q =
      let e1 : a + 1 ≡ suc a = omega arith in
      let e2 : a + 2 ≡ suc (suc a) = omega arith in
      let e3 : a + 3 ≡ suc (suc (suc a)) = omega arith in
      let e4 : a + 4 ≡ suc (suc (suc (suc a))) = omega arith in
      let e5 : a + 5 ≡ suc (suc (suc (suc (suc a)))) = omega arith in
      let e6 : a + 6 ≡ suc (suc (suc (suc (suc (suc a))))) = omega arith in
      let e7 : a + 7 ≡ suc (suc (suc (suc (suc (suc (suc a)))))) = omega arith in
      rw (e1, e2, e3, e4, e5, e6, e7)

  -- at most n elements, whichever way the count is given
  pub take_least : (n : ℕ) (l : List A) → take (min n (length l)) l ≡ take n l
  take_least n l = go (dec_le (length l) n)
    where
      go : Dec (length l ≤ n) → take (min n (length l)) l ≡ take n l
      go (yes h) =
          let e : min n (length l) ≡ length l = omega arith in
          rw (e, take-length l, take_all n l h)
      go (no h) =
          let e : min n (length l) ≡ n = omega (arith, h) in
          rw e

  -- ---- equal lists, a test over lists

  -- lists that are equal begin with the same
  pub head_same : {x y : A} {xs ys : List A} → x ∷ xs ≡ y ∷ ys → x ≡ y
  head_same e = cc

  -- lists that are equal go on with the same
  pub tail_same : {x y : A} {xs ys : List A} → x ∷ xs ≡ y ∷ ys → xs ≡ ys
  tail_same e = cc

  -- what is put before a list where a test says so is put before what follows too
  pub cond_append : (b : Bool) (x : A) (xs ys : List A) → cond b (x ∷ (xs ++ ys)) (xs ++ ys) ≡ cond b (x ∷ xs) xs ++ ys
  cond_append true x xs ys = refl
  cond_append false x xs ys = refl

  -- two runs, the second where the first ends, that are stored where a test says so, are one such run
  pub cond_sets : (b c : Bool) (at next : ℕ) (s t out left last : List A) → c ≡ b → next ≡ at + length s
      → left ≡ cond b (sets out at s) out → last ≡ cond c (sets left next t) left
      → last ≡ cond b (sets out at (s ++ t)) out
  cond_sets true c at next s t out left last p q f g = g ∙ rw (p, q, f) (sym (sets_append out at s t))
  cond_sets false c at next s t out left last p q f g = g ∙ rw (p, f)

  -- ---- parts

  -- a part has as many elements as it asks for at most
  pub part_most : (s : List A) (at n : ℕ) → length (part s at n) ≤ n
  unfolding part
  part_most s at n = simp length-take (omega arith)

  -- a part that is lent by the places where it begins and ends
  pub lent_part : (s : List A) (at n : ℕ) → take (at + n - at) (drop at s) ≡ part s at n
  unfolding part
  lent_part s at n = rw (add-sub_cancel_left at n)

  -- such a part inside a list has as many elements as it asks for
  pub lent_long : (s : List A) (at n : ℕ) → at + n ≤ length s → length (take (at + n - at) (drop at s)) ≡ n
  lent_long s at n h = ap length (lent_part s at n) ∙ length_part s at n h

  -- n elements after the first ones, where there are so many
  pub length_between : (s : List A) (at n : ℕ) → at + n ≤ length s → length (take n (drop at s)) ≡ n
  length_between s at n h = simp (length-take, length-drop) (omega arith)

  -- the rest of a list, as it is lent
  pub rest_lent : (s : List A) (k : ℕ) → take (length s - k) (drop k s) ≡ drop k s
  rest_lent s k = take_all (length s - k) (drop k s) (omega (arith, length-drop k s))

  -- a part and what comes after it
  pub part_rest : (s : List A) (at n : ℕ) → part s at n ++ drop (at + n) s ≡ drop at s
  unfolding part
  part_rest s at n =
      ap (λ (r : List A). take n (drop at s) ++ r) (sym (drop-drop n at s)) ∙ take-append-drop n (drop at s)

  -- what stands between two lists is that part of the whole
  pub part_seam : (xs b ys : List A) → part (xs ++ (b ++ ys)) (length xs) (length b) ≡ b
  unfolding part
  part_seam xs b ys = rw drop-append_seam (take-append_seam b ys)

  -- storing what stands there changes nothing
  pub store_same : (xs b ys : List A) → sets (xs ++ (b ++ ys)) (length xs) b ≡ xs ++ (b ++ ys)
  store_same xs b ys =
      let l = length-append xs (b ++ ys) in
      let m = length-append b ys in
      sets-eq b (xs ++ (b ++ ys)) (length xs) (omega arith)
      ∙ rw (take-append_seam, drop-append-add, drop-append_seam) (append_assoc xs b ys)

  -- from a place on, after a store there, comes what was stored and then what stood after it
  pub drop_set : (l : List A) (i : ℕ) (v : A) → i < length l → drop i (set l i v) ≡ v ∷ drop (suc i) l
  drop_set l i v h = rw (set_split l i v h) (drop_at (take i l) _ i (length-take-le i l (omega arith)))

  -- some of many copies of one element are so many copies
  pub take_replicate : (n m : ℕ) (a : A) → n ≤ m → take n (replicate m a) ≡ replicate n a
  take_replicate zero m a h = refl
  take_replicate (suc n) zero a h = absurd (omega arith)
  take_replicate (suc n) (suc m) a h = ap (λ (l : List A). a ∷ l) (take_replicate n m a (omega arith))

-- ---- lists of numbers, with zeros past their ends

-- in a list of zeros every number is 0
pub zero_at : (n k : ℕ) → ◌≡◌ {A = ℕ} (get_or (replicate n 0) k 0) 0
zero_at zero k = refl
zero_at (suc n) zero = refl
zero_at (suc n) (suc k) = zero_at n k

-- zeros put after a list change none of its numbers
pub get_d_zeros : (bs : List ℕ) (n i : ℕ) → get_or (bs ++ replicate n 0) i 0 ≡ get_or bs i 0
get_d_zeros [] n i = zero_at n i
get_d_zeros (b ∷ bs) n zero = refl
get_d_zeros (b ∷ bs) n (suc i) = get_d_zeros bs n i

-- past the end of a list every number is 0
pub get_d_past : (t : List ℕ) (at : ℕ) → length t ≤ at → (k : ℕ) → get_or t (at + k) 0 ≡ 0
get_d_past t at h k = get_or-eq_default t 0 (omega arith)

-- a mark that was set is not 0
pub mark_set : (seen : List ℕ) (m : ℕ) → m < length seen → get_or (set seen m 1) m 0 ≡ 0 → ⊥
mark_set seen m l e =
    let z : ◌≡◌ {A = ℕ} 1 0 = sym (get_or-set_same seen m 1 0 l) ∙ e in
    omega arith

-- a mark that was not 0 is not 0 after any mark was set
pub mark_kept : (seen : List ℕ) (m i : ℕ) → m < length seen → (get_or seen i 0 ≡ 0 → ⊥) → (b : Bool) → eqb i m ≡ b
    → get_or (set seen m 1) i 0 ≡ 0 → ⊥
mark_kept seen m i l n true q e = mark_set seen m l (rw (eqb-true i m q) at e)
mark_kept seen m i l n false q e = n (sym (get_or-set_other seen m i 1 0 (eqb-false i m q)) ∙ e)
