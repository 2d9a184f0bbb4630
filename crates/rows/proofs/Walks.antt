-- The loops over arrays and slices, a turn at a time: a change of every place, also among the first places, a laying out, and a search by the library's iterators.
use mathlib.Core.Path.{◌≡◌, refl, sym, ap, ap₂, ◌∙◌}
use mathlib.Core.Logic.{◌≢◌}
use Prim.Native.Nat.{ℕ, zero, suc, ◌+◌, ◌≤◌, ◌<◌, min}
use native.Mathlib.Numerals.{add-one}
use native.Mathlib.Omega.{arith}
use mathlib.Core.Bool.{Bool, true, false, cond, ◌||◌, or-true}
use mathlib.Core.List.{List, [], ◌∷◌, ◌++◌, map, append-nil}
use lib.Dec.{eqb, ltb}
use lib.ListN.{length, take, drop, get_or, set, replicate, length-map, length-take, length-set, drop_of_length-le, take-append-drop, get_or-map}
use lib.Seq.{take_all, take_at, take-suc, length-take-le, drop-cons, append_snoc, drop-set-lt, take-set-lt, take-suc-set, get_or-take}
use borrow.Author.Tests.{eq-eqb, ne_eqb, lt-ltb, le-ltb}
use Rattle.std.specs.List.{list_any}
use Rattle.templates.specs.Templates.{any}
use Rattle.rows.specs.Rows.{Row, one, two, holds_row, among, map_from}
use Rattle.rows.specs.Shown.{laid}
use Rattle.rows.specs.Answers.{All}

-- ---- a read of a change, and of two after each other

-- the first n changed by f, and by g after it
module _ {A B : Type 0} (f : A → B) (n : ℕ) (xs : List A) where
  pub long_map : length (map f (take n xs)) ≡ min n (length xs)
  long_map = length-map (take n xs) f ∙ length-take n xs

  pub read-map : (i : ℕ) (e : A) → i < n → get_or (map f (take n xs)) i (f e) ≡ f (get_or xs i e)
  read-map i e h = get_or-map f (take n xs) i e ∙ ap f (get_or-take n xs i e h)

  module _ {C : Type 0} (g : B → C) where
    pub long_maps : length (map g (map f (take n xs))) ≡ min n (length xs)
    long_maps = length-map (map f (take n xs)) g ∙ long_map

    pub read_maps : (i : ℕ) (e : A) → i < n → get_or (map g (map f (take n xs))) i (g (f e)) ≡ g (f (get_or xs i e))
    read_maps i e h = get_or-map g (map f (take n xs)) i (f e) ∙ ap g (read-map i e h)

-- ---- the first n of a list are those that there are

module _ {A : Type 0} where
  pub take_least : (k n : ℕ) (xs : List A) → k ≡ min n (length xs) → take k xs ≡ take n xs
  take_least zero zero xs e = refl
  take_least zero (suc n) [] e = refl
  take_least zero (suc n) (x ∷ xs) e = absurd (omega (arith, e))
  take_least (suc k) zero xs e = absurd (omega (arith, e))
  take_least (suc k) (suc n) [] e = absurd (omega (arith, e))
  take_least (suc k) (suc n) (x ∷ xs) e = ap (λ ys. x ∷ ys) (take_least k n xs (omega (arith, e)))

  drop_least : (k n : ℕ) (xs : List A) → k ≡ min n (length xs) → drop k xs ≡ drop n xs
  drop_least zero zero xs e = refl
  drop_least zero (suc n) [] e = refl
  drop_least zero (suc n) (x ∷ xs) e = absurd (omega (arith, e))
  drop_least (suc k) zero xs e = absurd (omega (arith, e))
  drop_least (suc k) (suc n) [] e = absurd (omega (arith, e))
  drop_least (suc k) (suc n) (x ∷ xs) e = drop_least k n xs (omega (arith, e))

module _ {A : Type 0} (k n p : ℕ) (xs : List A) (e : k ≡ min n (length xs)) where
  -- a search behind place p
  pub sought_in : (f : A → Bool) → any f (drop (p + 1) (take k xs)) ≡ any f (drop (suc p) (take n xs))
  sought_in f = rw (add-one, take_least k n xs e) refl

  pub sought_out : (f : A → Bool) → k ≤ p → false ≡ any f (drop (suc p) (take n xs))
  sought_out f h =
      let past : length (take n xs) ≤ suc p = omega (arith, e, length-take n xs) in
      rw (drop_of_length-le (take n xs) past) refl

  -- a change of the first n, if place p is one of them
  pub changed_in : (f : List A → List A) → p < k → among k f xs ≡ cond (ltb p (length (take n xs))) (among n f xs) xs
  changed_in f h =
      let within : p < length (take n xs) = omega (arith, e, length-take n xs) in
      rw (lt-ltb p (length (take n xs)) within) (ap₂ ◌++◌ (ap f (take_least k n xs e)) (drop_least k n xs e))

  pub changed_out : (f : List A → List A) → k ≤ p → xs ≡ cond (ltb p (length (take n xs))) (among n f xs) xs
  changed_out f h =
      let past : length (take n xs) ≤ p = omega (arith, e, length-take n xs) in
      rw (le-ltb p (length (take n xs)) past) refl

-- ---- a change of every place from i on, which is to make r of the k elements

pub record Mapping {A : Type 0} (f : A → A) (k : ℕ) (l : List A) (i : ℕ) (r : List A) : Type 0 where
  pub long : length l ≡ k
  pub left : map_from f i l ≡ r

module _ {A : Type 0} {f : A → A} {k : ℕ} {l : List A} {i : ℕ} {r : List A} (s : Mapping f k l i r) where
  pub map_on : (d : A) {y : A} → y ≡ f (get_or l i d) → i < k → Mapping f k (set l i y) (i + 1) r
  map_on d e h =
      let here : i < length l = omega (arith, s.long) in
      let next : i < suc i = omega arith in
      record {
        long = simp length-set s.long;
        left = rw (e, add-one, take-suc-set, drop-set-lt, append_snoc) (rw (drop-cons l i d here) at s.left);
      }

  pub map_end : k ≤ i → l ≡ r
  map_end h =
      let past : length l ≤ i = omega (arith, s.long) in
      rw (drop_of_length-le, take_all, append-nil) at s.left

-- ---- a change among the first n of the k elements: the others stay

pub record Among {A : Type 0} (k n : ℕ) (l₀ l : List A) : Type 0 where
  pub long : length l ≡ k
  pub rest : drop n l ≡ drop n l₀

pub whole : {A : Type 0} (n : ℕ) (l : List A) → Among (length l) n l l
whole n l = record { long = refl; rest = refl }

module _ {A : Type 0} {k n : ℕ} {l₀ l : List A} (a : Among k n l₀ l) where
  among_on : (i : ℕ) (y : A) → i < n → Among k n l₀ (set l i y)
  among_on i y h = record { long = simp length-set a.long; rest = drop-set-lt n l i y h ∙ a.rest }

  pub among_end : (f : List A → List A) → take n l ≡ f (take n l₀) → l ≡ among n f l₀
  among_end f e = sym (take-append-drop n l) ∙ ap₂ ◌++◌ e a.rest

  pub among_map_on : {f : A → A} {i : ℕ} {r : List A} → Mapping f (min n k) (take n l) i r → (d : A) {y : A} → y ≡ f (get_or l i d) → i < min n k
      → Among k n l₀ (set l i y) × Mapping f (min n k) (take n (set l i y)) (i + 1) r
  among_map_on {f = f} {i = i} s d e h =
      let within : i < n = omega arith in
      (among_on i _ within, rw (take-set-lt n l i _ within) (map_on s d (e ∙ ap f (sym (get_or-take n l i d within))) h))

-- ---- a laying out in k places: the first i of the elements stand there

pub record Laying {A : Type 0} (d : A) (k : ℕ) (ys l : List A) (i : ℕ) : Type 0 where
  pub same : l ≡ laid k d (take i ys)

module _ {A : Type 0} (d : A) where
  blanks : (k j : ℕ) → k ≤ j → take k (replicate j d) ≡ take k (replicate (suc j) d)
  blanks zero j h = refl
  blanks (suc k) zero h = absurd (omega (arith, h))
  blanks (suc k) (suc j) h = ap (λ ys. d ∷ ys) (blanks k j (omega (arith, h)))

  laid_next : (k j : ℕ) (xs : List A) (y : A) → length xs < k → k ≤ length xs + j
      → set (take k (xs ++ replicate j d)) (length xs) y ≡ take k ((xs ++ y ∷ []) ++ replicate j d)
  laid_next zero j xs y h g = absurd (omega (arith, h))
  laid_next (suc k) zero [] y h g = absurd (omega (arith, g))
  laid_next (suc k) (suc j) [] y h g = ap (λ ys. y ∷ ys) (blanks k j (omega (arith, g)))
  laid_next (suc k) j (x ∷ xs) y h g = ap (λ ys. x ∷ ys) (laid_next k j xs y (omega (arith, h)) (omega (arith, g)))

  laid-front : (k i : ℕ) (ys zs : List A) → min (length ys) k ≤ i → take k (take i ys ++ zs) ≡ take k (ys ++ zs)
  laid-front zero i ys zs h = refl
  laid-front (suc k) zero [] zs h = refl
  laid-front (suc k) (suc i) [] zs h = refl
  laid-front (suc k) zero (y ∷ ys) zs h = absurd (omega (arith, h))
  laid-front (suc k) (suc i) (y ∷ ys) zs h = ap (λ xs. y ∷ xs) (laid-front k i ys zs (omega (arith, h)))

  pub laid-all : {k : ℕ} (ys : List A) → length ys ≡ k → laid k d ys ≡ ys
  laid-all {k} ys e = take_at ys (replicate k d) k e

module _ {A : Type 0} {d : A} {k : ℕ} {ys l : List A} {i : ℕ} (s : Laying d k ys l i) where
  pub lay_on : (e : A) {y : A} → y ≡ get_or ys i e → i < length ys → i < k → Laying d k ys (set l i y) (i + 1)
  lay_on e {y} g h b =
      let size : length (take i ys) ≡ i = length-take-le i ys (omega arith) in
      record {
        same =
            rw add-one
            (ap₂ (λ (xs : List A) (j : ℕ). set xs j y) s.same (sym size)
            ∙ laid_next d k k (take i ys) y (omega (arith, size)) (omega arith)
            ∙ ap (laid k d) (ap (λ (x : A). take i ys ++ x ∷ []) g ∙ sym (take-suc ys i e h)));
      }

  pub lay_end : min (length ys) k ≤ i → l ≡ laid k d ys
  lay_end h = s.same ∙ laid-front d k i ys (replicate k d) h

-- ---- a fact of each of a list, of the first i so far

module _ {A : Type 0} (P : A → Type 0) where
  pub all_on : (xs : List A) (i : ℕ) (d : A) → i < length xs → All P (take i xs) → P (get_or xs i d) → All P (take (i + 1) xs)
  all_on xs i d h q p = rw add-one (more xs i h q p)
    where
      more : (ys : List A) (j : ℕ) → j < length ys → All P (take j ys) → P (get_or ys j d) → All P (take (suc j) ys)
      more [] j h q p = absurd (omega (arith, h))
      more (y ∷ ys) zero h q p = (p, tt)
      more (y ∷ ys) (suc j) h q p = (q.0, more ys j (omega (arith, h)) q.1 p)

  pub all_end : (xs : List A) (i : ℕ) → length xs ≤ i → All P (take i xs) → All P xs
  all_end xs i h q = rw (take_all i xs h) at q

-- ---- the two operands of a row, searched in turn: none of those before number j is k

pub record Asked (k : ℕ) (x : Row) (j : ℕ) : Type 0 where
  pub from : 1 ≤ j
  pub first : 2 ≤ j → eqb (one x) k ≡ false
  pub second : 3 ≤ j → eqb (two x) k ≡ false

pub ask_first : (k : ℕ) (x : Row) → Asked k x 1
ask_first k x = record { from = omega arith; first = λ h. absurd (omega (arith, h)); second = λ h. absurd (omega (arith, h)) }

pub ask_on : {k : ℕ} {x : Row} (j : ℕ) → Asked k x j → j < 3 → get_or x j 0 ≢ k → Asked k x (j + 1)
ask_on zero s h d = absurd (omega (arith, s.from))
ask_on (suc zero) s h d = record { from = omega arith; first = λ _. ne_eqb _ _ d; second = λ g. absurd (omega (arith, g)) }
ask_on (suc (suc zero)) s h d = record { from = omega arith; first = λ _. s.first (omega arith); second = λ _. ne_eqb _ _ d }
ask_on (suc (suc (suc j))) s h d = absurd (omega (arith, h))

pub ask_hit : {k : ℕ} {x : Row} (j : ℕ) → Asked k x j → j < 3 → get_or x j 0 ≡ k → holds_row k x ≡ true
ask_hit {k} {x} zero s h e = absurd (omega (arith, s.from))
ask_hit {k} {x} (suc zero) s h e = rw (eq-eqb _ _ e) refl
ask_hit {k} {x} (suc (suc zero)) s h e = rw (eq-eqb _ _ e) (or-true (eqb (one x) k))
ask_hit {k} {x} (suc (suc (suc j))) s h e = absurd (omega (arith, h))

pub ask_end : {k : ℕ} {x : Row} {j : ℕ} → Asked k x j → 3 ≤ j → holds_row k x ≡ false
ask_end s h = rw (s.first (omega arith), s.second h) refl

-- ---- a search, as the library's iterators answer it

pub any_is : {A : Type 0} (f : A → Bool) (xs : List A) → list_any f xs ≡ any f xs
any_is f [] = refl
any_is f (x ∷ xs) = ap (λ b. f x || b) (any_is f xs)
