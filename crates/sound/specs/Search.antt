-- What the walks of this crate's code answer, and soundness of a working table; a state's soundness does not cite it.
use Rattle.std.specs.Prelude.{◌≡◌, ℕ, suc, Bool, true, false, cond, ◌&&◌, not, List, [], ◌∷◌, Option, None, Some, leb, length, get_or}
use Rattle.templates.specs.declared.Counter.{Counter}
use Rattle.templates.specs.Machine.{Itb, mach, room}
use Rattle.rows.specs.Rows.{Row, filled_from}
use Rattle.rows.specs.Shown.{held_of, regs_of}
use Rattle.sound.specs.declared.Made.{Made}
use Rattle.sound.specs.Sound.{Produced, none, after_all, templates_ok, is_jz, sound_mach}

-- the tags that have a producer, by a test at the place of each; past the last there is none
abbrev pub told : Made → Produced
told made = λ t. get_or made.0 t.0 false

-- the tags that the templates produce if they are in order, and nothing if they are not
abbrev pub Checks : ℕ → List Itb → Option Made → Type 0
Checks k xs None = templates_ok k none xs ≡ false
Checks k xs (Some made) = (templates_ok k none xs ≡ true) × (told made ≡ after_all xs none)

-- the place of the first Jz, or how many templates there are
abbrev pub first_jz : List Itb → ℕ
first_jz [] = 0
first_jz (x ∷ xs) = cond (is_jz x.work) 0 (suc (first_jz xs))

-- on the working table: its first n rows, with the registers, show a sound machine, and none behind them is filled
abbrev pub sound_on : ℕ → Counter → ℕ → List Row → List ℕ → Bool
sound_on k c n ts rf = leb n room && (leb n (length ts) && (not (filled_from n ts) && sound_mach k (mach c (regs_of rf) (held_of n ts))))
