-- The lines of a report.
use Rattle.std.specs.Prelude.{◌≡◌, ℕ, ◌+◌, ◌≤◌, List, [], ◌++◌}
use Rattle.value.specs.declared.Value.{Value}
use Rattle.value.specs.declared.Value.TheVariants.{Undefined, Word}
use Rattle.isa.specs.declared.InstrAddr.{InstrAddr}
use Rattle.text.specs.declared.Page.{Page}
use Rattle.text.specs.Text.{Put, ascii, decimal}
use Rattle.templates.specs.declared.Operand.{Operand}
use Rattle.templates.specs.declared.Operand.TheVariants.{Known, Waits}
use Rattle.templates.specs.declared.Register.{Register}
use Rattle.templates.specs.declared.Counter.{Counter}
use Rattle.templates.specs.declared.Counter.TheVariants.{At, Stall}

-- ---- a file that is refused

-- the file, the refusal and the record's number
unfoldable pub input_text : ℕ → ℕ → ℕ → List ℕ
input_text file refusal number =
    ascii "input " ++ (decimal file ++ (ascii " " ++ (decimal refusal ++ (ascii " " ++ (decimal number ++ ascii "\n")))))

-- ---- what the run and the drain did

-- accepted records and the refusal; issues
unfoldable pub ran_text : ℕ → ℕ → ℕ → List ℕ
ran_text accepted refusal issued =
    ascii "accepted " ++ (decimal accepted ++ (ascii " refused " ++ (decimal refusal ++ (ascii "\nissued " ++ (decimal issued ++ ascii "\n")))))

unfoldable pub drained_text : ℕ → List ℕ
drained_text rules = ascii "drained " ++ (decimal rules ++ ascii "\n")

-- the oldest template's address, its refusal, and the rules
unfoldable pub blocked_text : InstrAddr → ℕ → ℕ → List ℕ
blocked_text a refusal rules =
    ascii "blocked " ++ (decimal a.0 ++ (ascii " by " ++ (decimal refusal ++ (ascii " after " ++ (decimal rules ++ ascii "\n")))))

-- ---- what the machine holds

unfoldable pub counter_text : Counter → List ℕ
counter_text (At ia) = ascii "pc " ++ (decimal ia.0 ++ ascii "\n")
counter_text Stall = ascii "pc stall\n"

-- the name of a space and a number in it, and what is there
unfoldable pub named_text : List ℕ → ℕ → List ℕ → List ℕ
named_text name i t = name ++ (decimal i ++ (ascii " " ++ (t ++ ascii "\n")))

-- nothing for undefined
unfoldable pub value_text : List ℕ → ℕ → Value → List ℕ
value_text name i Undefined = []
value_text name i (Word w) = named_text name i (decimal w)

unfoldable pub operand_text : ℕ → Operand → List ℕ
operand_text i (Known v) = value_text (ascii "r") i v
operand_text i (Waits t) = named_text (ascii "r") i (ascii "t" ++ decimal t.0)

abbrev pub register_text : ℕ → Register → List ℕ
register_text i r = operand_text i r.holds

abbrev pub cell_text : ℕ → Value → List ℕ
cell_text i v = value_text (ascii "m") i v

-- ---- what each line's writer promises

-- the text is put in, and it is of at most k bytes there
pub record Puts (b : List ℕ) (at : ℕ) (t : List ℕ) (k : ℕ) (r : ℕ) (b' : List ℕ) : Type 0 where
  pub text : Put b at t r b'
  pub most : r ≤ at + k

-- such a text is put at p's place: q is of the same buffer, and its place is the one behind
pub record AddsWithin (p : Page) (t : List ℕ) (k : ℕ) (q : Page) : Type 0 where
  pub same_buffer : q.out.ghost_name ≡ p.out.ghost_name
  pub puts : Puts p.out.now p.at t k q.at q.out.now
