-- A number's decimal text: it spells the number, with digits only and no leading zero, and how long it is.
use mathlib.Core.Path.{◌≡◌, refl, ap}
use mathlib.Core.Logic.{◌≢◌, ⊎_elim}
use Prim.Native.Nat.{ℕ, zero, suc, ◌+◌, ◌*◌, ◌-◌, ◌/◌, ◌%◌, ◌^◌, ◌<◌, ◌≤◌}
use native.Mathlib.Nat.{pow-suc, le_refl, mod-eq_of_lt}
use native.Mathlib.Omega.{arith}
use mathlib.Core.Bool.{Bool, true, false, cond}
use mathlib.Core.List.Memᴰ
use mathlib.Core.List.{List, [], ◌∷◌, ◌++◌, foldl-append, Memᴰ}
use lib.Dec.{ltb}
use lib.ListN.{length, get_or, length-append, get_or-append}
use borrow.Author.Tests.{lt-ltb, le-ltb, ltb-true, ltb-false}
use Rattle.text.specs.Text.{digit, digits, decimal, number}

-- ---- a number has one digit, or one more than its tenth
more_steps : (j k n : ℕ) → n ≤ j → n ≤ k → digits j n ≡ digits k n
more_steps zero zero n h l = refl
more_steps zero (suc k) n h l = rw (lt-ltb n 10 (omega arith)) refl
more_steps (suc j) zero n h l = rw (lt-ltb n 10 (omega arith)) refl
more_steps (suc j) (suc k) n h l =
    ap (λ (t : List ℕ). cond (ltb n 10) (digit n ∷ []) (t ++ (digit (n % 10) ∷ []))) (more_steps j k (n / 10) (omega arith) (omega arith))

pub decimal-one : (n : ℕ) → n < 10 → decimal n ≡ digit (n % 10) ∷ []
unfolding decimal
decimal-one zero h = refl
decimal-one (suc n) h = rw (lt-ltb (suc n) 10 h, mod-eq_of_lt h) refl

pub decimal_more : (n : ℕ) → 10 ≤ n → decimal n ≡ decimal (n / 10) ++ (digit (n % 10) ∷ [])
unfolding decimal
decimal_more zero h = absurd (omega arith)
decimal_more (suc n) h =
    rw (le-ltb (suc n) 10 h)
    (ap (λ (t : List ℕ). t ++ (digit (suc n % 10) ∷ [])) (more_steps n (suc n / 10) (suc n / 10) (omega arith) (omega arith)))

-- each number is reached so
module _ (P : ℕ → Type 0) (one : (n : ℕ) → n < 10 → P n) (more : (n : ℕ) → 10 ≤ n → P (n / 10) → P n) where
  within : (steps n : ℕ) → n ≤ steps → P n
  within zero n h = one n (omega arith)
  within (suc steps) n h = go (ltb n 10) refl (λ l. within steps (n / 10) (omega arith))
    where
      go : (t : Bool) → ltb n 10 ≡ t → (10 ≤ n → P (n / 10)) → P n
      go true e tenth = one n (ltb-true n 10 e)
      go false e tenth = let l = ltb-false n 10 e in more n l (tenth l)

  pub by_digits : (n : ℕ) → P n
  by_digits n = within n n (le_refl n)

-- ---- the text reads back as the number
number_snoc : (t : List ℕ) (byte : ℕ) → number (t ++ (byte ∷ [])) ≡ 10 * number t + (byte - 48)
unfolding number
number_snoc t byte = foldl-append (λ n b. 10 * n + (b - 48)) 0 t (byte ∷ [])

pub number-decimal : (n : ℕ) → number (decimal n) ≡ n
unfolding number
number-decimal = by_digits (λ n. number (decimal n) ≡ n)
    (λ n h. rw (decimal-one n h) (omega arith))
    (λ n h e. rw (decimal_more n h, number_snoc (decimal (n / 10)) (digit (n % 10)), e) (omega arith))

-- ---- the first digit is zero only in 0
long : (n : ℕ) → 0 < length (decimal n)
long = by_digits (λ n. 0 < length (decimal n))
    (λ n h. rw (decimal-one n h) (omega arith))
    (λ n h e. rw (decimal_more n h, length-append) (omega arith))

pub no_leading_zero : (n : ℕ) → n ≢ 0 → get_or (decimal n) 0 0 ≢ digit 0
no_leading_zero = by_digits (λ n. n ≢ 0 → get_or (decimal n) 0 0 ≢ digit 0)
    (λ n h z. rw (decimal-one n h) (λ e. z (omega arith)))
    (λ n h e z. rw (decimal_more n h, get_or-append (decimal (n / 10)) (digit (n % 10) ∷ []) 0 0 (long (n / 10))) (e (λ t. z (omega arith))))

-- ---- each byte is a digit
pub decimal-digits : (n byte : ℕ) → Memᴰ byte (decimal n) → (digit 0 ≤ byte) × (byte ≤ digit 9)
decimal-digits = by_digits (λ n. (byte : ℕ) → Memᴰ byte (decimal n) → (digit 0 ≤ byte) × (byte ≤ digit 9))
    (λ n h byte m. let e = Memᴰ.eq_of_singleton (rw (decimal-one n h) at m) in (omega arith, omega arith))
    (λ n h higher byte m.
    ⊎_elim (higher byte) (λ last. let e = Memᴰ.eq_of_singleton last in (omega arith, omega arith))
    (Memᴰ.append_cases (decimal (n / 10)) (rw (decimal_more n h) at m)))

-- ---- at most k digits below 10 ^ k
pub decimal_width : (k n : ℕ) → 0 < k → n < 10 ^ k → length (decimal n) ≤ k
decimal_width zero n h l = absurd (omega arith)
decimal_width (suc zero) n h l = rw (decimal-one n (omega arith)) (omega arith)
decimal_width (suc (suc k)) n h l = go (ltb n 10) refl (λ m. decimal_width (suc k) (n / 10) (omega arith) (omega (arith, pow-suc 10 (suc k))))
  where
    go : (t : Bool) → ltb n 10 ≡ t → (10 ≤ n → length (decimal (n / 10)) ≤ suc k) → length (decimal n) ≤ suc (suc k)
    go true e tenth = rw (decimal-one n (ltb-true n 10 e)) (omega arith)
    go false e tenth = let m = ltb-false n 10 e in rw (decimal_more n m, length-append) (omega (arith, tenth m))
