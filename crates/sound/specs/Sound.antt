-- When a state is sound, as a test.
use Rattle.std.specs.Prelude.{ℕ, Bool, true, false, cond, ◌&&◌, ◌||◌, not, List, [], ◌∷◌, eqb, leb, ltb, length, drop}
use Rattle.value.specs.declared.Value.TheVariants.{Undefined, Word}
use Rattle.isa.specs.declared.Tag.{Tag}
use Rattle.isa.specs.Instruction.{last_operation}
use Rattle.templates.specs.declared.Operand.{Operand}
use Rattle.templates.specs.declared.Operand.TheVariants.{Known, Waits}
use Rattle.templates.specs.declared.Work.{Work}
use Rattle.templates.specs.declared.Work.TheVariants.{Done, Op, Jz, Load, Store}
use Rattle.templates.specs.declared.Template.{Template}
use Rattle.templates.specs.declared.Register.{Register}
use Rattle.templates.specs.declared.Counter.{Counter}
use Rattle.templates.specs.declared.Counter.TheVariants.{At, Stall}
use Rattle.templates.specs.declared.State.{State}
use Rattle.templates.specs.Templates.{same_tag, any, any_reg}
use Rattle.templates.specs.Machine.{Itb, Mach, room, last_tag}
use Rattle.templates.specs.Layout.{mach_of}

-- ---- the tags that have a producer, template by template

abbrev pub Produced : Type 0
Produced = Tag → Bool

abbrev pub none : Produced
none t = false

abbrev pub also : Tag → Produced → Produced
also t made = λ s. same_tag s t || made s

abbrev pub after : Work → Produced → Produced
after (Done t v) made = also t made
after (Op t n x y) made = also t made
after (Jz x y) made = made
after (Load t x) made = also t made
after (Store x y) made = made

abbrev pub after_all : List Itb → Produced → Produced
after_all [] made = made
after_all (x ∷ xs) made = after_all xs (after x.work made)

-- ---- templates, the oldest first

-- producing tags lie in 1 to 64 and differ
abbrev pub is_new : Produced → Tag → Bool
is_new made t = ltb 0 t.0 && (leb t.0 last_tag && not (made t))

-- an operand's tag has a producer at an earlier place
abbrev pub is_ready : Produced → Operand → Bool
is_ready made (Known v) = true
is_ready made (Waits t) = made t

-- an Op template's operation is 0 to 4
abbrev pub work_ok : Produced → Work → Bool
work_ok made (Done t v) = is_new made t
work_ok made (Op t n x y) = is_new made t && (is_ready made x && (is_ready made y && leb n last_operation))
work_ok made (Jz x y) = is_ready made x && is_ready made y
work_ok made (Load t x) = is_new made t && is_ready made x
work_ok made (Store x y) = is_ready made x && is_ready made y

-- each template's address is inside the program, which has k instructions
abbrev pub template_ok : ℕ → Produced → Itb → Bool
template_ok k made x = ltb x.address.0 k && work_ok made x.work

abbrev pub templates_ok : ℕ → Produced → List Itb → Bool
templates_ok k made [] = true
templates_ok k made (x ∷ xs) = template_ok k made x && templates_ok k (after x.work made) xs

-- ---- registers: each tag has a producer, and no two hold the same

abbrev pub is_alone : Operand → List Register → Bool
is_alone (Known v) rf = true
is_alone (Waits t) rf = not (any_reg t rf)

abbrev pub registers_ok : Produced → List Register → Bool
registers_ok made [] = true
registers_ok made (r ∷ rf) = is_ready made r.holds && (is_alone r.holds rf && registers_ok made rf)

-- ---- Stall exactly when the last template is a Jz, and no other is

abbrev pub is_jz : Work → Bool
is_jz (Done t v) = false
is_jz (Op t n x y) = false
is_jz (Jz x y) = true
is_jz (Load t x) = false
is_jz (Store x y) = false

abbrev pub any_jz : List Itb → Bool
any_jz xs = any (λ x. is_jz x.work) xs

abbrev pub is_empty : List Itb → Bool
is_empty [] = true
is_empty (x ∷ xs) = false

abbrev pub ends_in_jz : List Itb → Bool
ends_in_jz [] = false
ends_in_jz (x ∷ xs) = cond (is_jz x.work) (is_empty xs) (ends_in_jz xs)

abbrev pub counter_ok : Counter → List Itb → Bool
counter_ok (At a) xs = not (any_jz xs)
counter_ok Stall xs = ends_in_jz xs

-- ---- every place past the last template holds the blank

abbrev pub blank_work : Work → Bool
blank_work (Done t Undefined) = eqb t.0 0
blank_work (Done t (Word w)) = false
blank_work (Op t n x y) = false
blank_work (Jz x y) = false
blank_work (Load t x) = false
blank_work (Store x y) = false

abbrev pub is_blank : Template → Bool
is_blank x = eqb x.address.0 0 && blank_work x.work

abbrev pub all_blank : List Template → Bool
all_blank [] = true
all_blank (x ∷ xs) = is_blank x && all_blank xs

-- ---- the whole

unfoldable pub sound_mach : ℕ → Mach → Bool
sound_mach k σ =
    (leb (length σ.held) room && templates_ok k none σ.held)
    && (registers_ok (after_all σ.held none) σ.registers && counter_ok σ.counter σ.held)

-- of a program of k instructions
unfoldable pub is_sound : ℕ → State → Bool
is_sound k s = leb s.count room && (all_blank (drop s.count s.templates) && sound_mach k (mach_of s))
