-- The layout of a machine: a table of 64 places, of which those behind the templates are blank.
use Rattle.std.specs.Prelude.{◌≡◌, ℕ, ◌-◌, ◌≤◌, List, ◌++◌, map, length, take, replicate}
use Rattle.templates.specs.declared.Template.{Template}
use Rattle.templates.specs.declared.State.{State}
use Rattle.templates.specs.Machine.{Itb, ITB, nothing, Mach, mach}

-- the places of the table
abbrev pub places : ℕ
places = 64

-- ---- one place: what is derived from a template's work would stand here

abbrev pub template : Itb → Template
template x = record { address = x.address; work = x.work }

abbrev pub itb : Template → Itb
itb x = ITB x.address x.work

-- address 0, tag 0, undefined value: it isn't a template
abbrev pub blank : Template
blank = template nothing

-- ---- all places

abbrev pub itbs : List Template → List Itb
itbs ts = map itb ts

abbrev pub lay : List Itb → List Template
lay xs = map template xs ++ replicate (places - length xs) blank

-- ---- the whole state

abbrev pub mach_of : State → Mach
mach_of s = mach s.counter s.registers (itbs (take s.count s.templates))

abbrev pub state_of : Mach → State
state_of σ = record { counter = σ.counter; registers = σ.registers; templates = lay σ.held; count = length σ.held }

-- a state that is a machine's layout
pub record Laid (s : State) : Type 0 where
  pub within : s.count ≤ places
  pub whole : s ≡ state_of (mach_of s)
