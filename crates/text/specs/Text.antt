-- Text as bytes, numbers as text, and what writing a text leaves.
use Rattle.std.specs.Prelude.{◌≡◌, ℕ, zero, suc, ◌+◌, ◌*◌, ◌-◌, ◌/◌, ◌%◌, min, cond, ltb, length, drop}
use Prim.Native.Char.{code}
use Prim.Native.String.{String, [] as []ˢ, ◌∷◌ as ◌∷ˢ◌}
use mathlib.Core.List.{List, [], ◌∷◌, ◌++◌, foldl}
use Rattle.std.proofs.lemmas.List.Edits.{sets}

-- the bytes of a quoted text
abbrev pub ascii : String → List ℕ
ascii []ˢ = []
ascii (c ∷ˢ s) = code c ∷ ascii s

-- b' is b with the text in it from `at` on, and r is the place behind it; a byte that has no room is not written
pub record Put (b : List ℕ) (at : ℕ) (t : List ℕ) (r : ℕ) (b' : List ℕ) : Type 0 where
  pub next : r ≡ at + min (length t) (length b - at)
  pub holds : b' ≡ sets b at t

-- a buffer with the text at its start: bytes after the text stay
abbrev pub into : List ℕ → List ℕ → List ℕ
into b t = t ++ drop (length t) b

-- the byte of a digit
abbrev pub digit : ℕ → ℕ
digit n = 48 + n

-- a number's digits, the highest first; so many steps suffice, and the `let` is computed only where it is needed
abbrev pub digits : ℕ → ℕ → List ℕ
digits zero n = digit n ∷ []
digits (suc steps) n = let more = digits steps (n / 10) ++ (digit (n % 10) ∷ []) in cond (ltb n 10) (digit n ∷ []) more

-- a number in decimal, with no leading zero
unfoldable pub decimal : ℕ → List ℕ
decimal n = digits n n

-- a text for each thing of a list, by its number, from number i on
unfoldable pub numbered : {A : Type 0} → (ℕ → A → List ℕ) → ℕ → List A → List ℕ
numbered f i [] = []
numbered f i (x ∷ xs) = f i x ++ numbered f (suc i) xs

-- the number that digits spell
unfoldable pub number : List ℕ → ℕ
number t = foldl (λ n byte. 10 * n + (byte - 48)) 0 t
