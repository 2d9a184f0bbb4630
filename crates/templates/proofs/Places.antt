-- The 64 places and the machine say each other.
use mathlib.Core.Path.{◌≡◌, refl, sym, ap, ap₂, ◌∙◌}
use Prim.Native.Nat.{ℕ, ◌-◌, ◌≤◌}
use native.Mathlib.Omega.{arith}
use mathlib.Core.List.{List, [], ◌∷◌, map}
use lib.ListN.{length, take, drop, replicate, length-map, take-append-drop}
use lib.Seq.{length-take-le, take-append_seam, drop-append_seam}
use Rattle.templates.specs.declared.Counter.{Counter}
use Rattle.templates.specs.declared.Template.{Template}
use Rattle.templates.specs.declared.Register.{Register}
use Rattle.templates.specs.declared.State.{State}
use Rattle.templates.specs.Machine.{Itb, Mach, mach}
use Rattle.templates.specs.Layout.{places, template, itb, blank, itbs, lay, mach_of, state_of, Laid}

-- ---- the layout of a list

itbs-template : (xs : List Itb) → itbs (map template xs) ≡ xs
itbs-template [] = refl
itbs-template (x ∷ xs) = ap (λ (ys : List Itb). x ∷ ys) (itbs-template xs)

-- in front are the templates, behind them the blanks
pub lay-front : (xs : List Itb) → take (length xs) (lay xs) ≡ map template xs
lay-front xs = ap (λ (n : ℕ). take n (lay xs)) (sym (length-map xs template)) ∙ take-append_seam (map template xs) _

pub lay_back : (xs : List Itb) → drop (length xs) (lay xs) ≡ replicate (places - length xs) blank
lay_back xs = ap (λ (n : ℕ). drop n (lay xs)) (sym (length-map xs template)) ∙ drop-append_seam (map template xs) _

-- ---- the state of a machine, and the machine of a state

pub mach_of-state_of : (σ : Mach) → mach_of (state_of σ) ≡ σ
mach_of-state_of σ = ap (mach σ.counter σ.registers) (ap itbs (lay-front σ.held) ∙ itbs-template σ.held)

abbrev pub placed : Counter → List Register → List Template → ℕ → State
placed c rf ts n = record { counter = c; registers = rf; templates = ts; count = n }

templates-itb : (ts : List Template) → map template (itbs ts) ≡ ts
templates-itb [] = refl
templates-itb (x ∷ ts) = ap (λ (ys : List Template). x ∷ ys) (templates-itb ts)

-- a state whose places behind the templates are blank
pub blanks_laid : (s : State) → length s.templates ≡ places → s.count ≤ places
    → drop s.count s.templates ≡ replicate (places - s.count) blank → Laid s
blanks_laid s n h e =
    let ts = take s.count s.templates in
    let long : length (itbs ts) ≡ s.count = length-map ts itb ∙ length-take-le s.count s.templates (omega arith) in
    let front : map template (itbs ts) ≡ ts = templates-itb ts in
    record {
      within = h;
      whole = ap₂ (placed s.counter s.registers) (sym (rw (front, long, ← e) (take-append-drop s.count s.templates))) (sym long);
    }

module _ (s : State) (l : Laid s) where
  abbrev held : List Itb
  held = (mach_of s).held

  pub state_of-mach_of : state_of (mach_of s) ≡ s
  state_of-mach_of = sym l.whole

  pub held-length : length held ≡ s.count
  held-length = ap (λ (t : State). t.count) state_of-mach_of

  -- the table
  pub templates-laid : s.templates ≡ lay held
  templates-laid = ap (λ (t : State). t.templates) l.whole

  -- the places behind the templates
  pub blanks : drop s.count s.templates ≡ replicate (places - length held) blank
  blanks = ap₂ drop (sym held-length) templates-laid ∙ lay_back held
