-- A public entry's promise admits one answer, and one content of the buffer that it was lent.
use Rattle.std.specs.Prelude.{ℕ, ◌+◌, min, ◌≡◌, Bool, List, length, Option, Result}
use Rattle.std.proofs.Math.ListN.{get_elem?}
use Rattle.records.specs.declared.Refusal.{Refusal}
use Rattle.records.specs.declared.Fault.{Fault}
use Rattle.records.specs.declared.Record.{Record}
use Rattle.records.specs.Refusal.{number_of, fault}
use Rattle.records.specs.Records.{found}
use Rattle.records.specs.Records as Records
use Rattle.records.specs.Scan.{judged, scanned}
use Rattle.value.specs.declared.Value.{Value}
use Rattle.value.specs.Operation.{result_of}
use Rattle.text.specs.declared.Page.{Page}
use Rattle.text.specs.Text.{decimal, numbered}
use Rattle.text.specs.Page.{Adds}
use Rattle.isa.specs.declared.InstrAddr.{InstrAddr}
use Rattle.isa.specs.declared.DataAddr.{DataAddr}
use Rattle.isa.specs.declared.Reg.{Reg}
use Rattle.isa.specs.declared.Tag.{Tag}
use Rattle.isa.specs.Instruction.{read_of}
use Rattle.isa.specs.declared.Instr.{Instr}
use Rattle.isa.specs.Program.{Wrote, fetched, decoded}
use Rattle.isa.specs.Program as Program
use Rattle.cells.specs.Cells.{Stores, cells, load_from}
use Rattle.cells.specs.Cells as Cells
use Rattle.kernel.specs.Checks.{checked}
use Rattle.kernel.specs.Kernel.{Writes}
use Rattle.kernel.specs.Kernel as Kernel
use Rattle.listing.specs.Listing.{Lists}
use Rattle.inorder.specs.declared.InOrder.{InOrder}
use Rattle.inorder.specs.Machine as Machine
use Rattle.inorder.specs.Entries as InOrder
use Rattle.templates.specs.declared.Operand.{Operand}
use Rattle.templates.specs.declared.Work.{Work}
use Rattle.templates.specs.declared.Template.{Template}
use Rattle.templates.specs.declared.Register.{Register}
use Rattle.templates.specs.declared.Counter.{Counter}
use Rattle.templates.specs.declared.State.{State}
use Rattle.templates.specs.Templates.{waits}
use Rattle.templates.specs.Machine as Mach
use Rattle.templates.specs.Layout.{mach_of, state_of}
use Rattle.templates.specs.Layout as Layout
use Rattle.rows.specs.Rows.{Row, row_at, itb_of, kind_at, operation_at, tag_at, address_at, value_at, first_at, second_at, contents_at, produced_in, in_register, filled_behind, without}
use Rattle.rows.specs.Rows as Rows
use Rattle.rows.specs.Shown.{laid_templates, laid_registers}
use Rattle.rows.specs.Answers.{Finishes, Fills, Holds, Codes, CodesRow, TurnsRegisters, TurnsTemplates}
use Rattle.rows.specs.Answers as Answers
use Rattle.sound.specs.Sound as Sound
use Rattle.sound.specs.Search as Search
use Rattle.rules.specs.declared.Rule.{Rule}
use Rattle.rules.specs.declared.Command.{Command}
use Rattle.rules.specs.Drain as Drain
use Rattle.rules.specs.Schedule.{command_of}
use Rattle.judge.specs.Reading.{forwarding, committing, retiring, operating, loading, stored_at, jumping, falling}
use Rattle.judge.specs.Reading as Reading
use Rattle.entry.specs.Entry.{Enters}
use Rattle.renaming.specs.Entries.{Steps, Runs, Drains}
use Rattle.lines.specs.Lines.{input_text, ran_text, drained_text, blocked_text, counter_text, value_text, register_text, AddsWithin}
use Rattle.report.specs.Report.{Reports, Shows}

-- of a promise about an answer
abbrev pub OneAnswer : {A : Type 0} → (A → Type 0) → Type 0
OneAnswer {A} P = (r r' : A) → P r → P r' → r ≡ r'

-- of a promise about an answer and a buffer
abbrev pub OneAnswerAndBuffer : {A : Type 0} → (A → List ℕ → Type 0) → Type 0
OneAnswerAndBuffer {A} P = (r r' : A) (b b' : List ℕ) → P r b → P r' b' → (r ≡ r') × (b ≡ b')

-- of a promise about an answer and two buffers
abbrev pub OneAnswerAndBuffers : {A : Type 0} → (A → List ℕ → List ℕ → Type 0) → Type 0
OneAnswerAndBuffers {A} P = (r r' : A) (b b' c c' : List ℕ) → P r b c → P r' b' c' → (r ≡ r') × (b ≡ b') × (c ≡ c')

-- of a promise about a page: one place, one content and one lent buffer
abbrev pub OnePage : (Page → Type 0) → Type 0
OnePage P = (q q' : Page) → P q → P q' → (q.at ≡ q'.at) × (q.out.now ≡ q'.out.now) × (q.out.ghost_name ≡ q'.out.ghost_name)

-- a line for each public function that has a promise: first those that write into a lent buffer and answer
pub record OneAnswers : Type 0 where
  pub step : (p : List ℕ) (s : State) (b one : List ℕ) → OneAnswerAndBuffer (Steps p s b one)
  pub run : (p : List ℕ) (s : State) (b records : List ℕ) → OneAnswerAndBuffer (Runs p s b records)
  pub drain : (p : List ℕ) (s : State) (b : List ℕ) → OneAnswerAndBuffer (Drains p s b)
  pub in_order_step : (p : List ℕ) (s : InOrder) (b : List ℕ) → OneAnswerAndBuffer (InOrder.Steps p s b)
  pub in_order_run : (p : List ℕ) (s : InOrder) (b : List ℕ) (budget : ℕ) → OneAnswerAndBuffer (InOrder.Runs p s b budget)
  pub write : (i : Instr) (out : List ℕ) → OneAnswerAndBuffer (Wrote i out)
  pub list : (p out : List ℕ) → OneAnswerAndBuffer (Lists p out)
  pub store : (b : List ℕ) (a : DataAddr) (v : Value) → OneAnswerAndBuffer (Stores b a v)
  pub write_at : (b : List ℕ) (a v : Value) → OneAnswerAndBuffer (Writes b a v)
  pub shows : (s : State) (b out : List ℕ) → OneAnswerAndBuffer (Shows s b out)
  pub report : (p b s out : List ℕ) → OneAnswerAndBuffers (Reports p b s out)
  -- those that write a text on a page
  pub put_text : (p : Page) (t : List ℕ) → OnePage (Adds p t)
  pub put_decimal : (p : Page) (n : ℕ) → OnePage (Adds p (decimal n))
  pub put_input : (p : Page) (file refusal number : ℕ) → OnePage (AddsWithin p (input_text file refusal number) 35)
  pub put_ran : (p : Page) (accepted refusal issued : ℕ) → OnePage (AddsWithin p (ran_text accepted refusal issued) 70)
  pub put_drained : (p : Page) (rules : ℕ) → OnePage (AddsWithin p (drained_text rules) 29)
  pub put_blocked : (p : Page) (a : InstrAddr) (refusal rules : ℕ) → OnePage (AddsWithin p (blocked_text a refusal rules) 53)
  pub put_counter : (p : Page) (c : Counter) → OnePage (AddsWithin p (counter_text c) 14)
  pub put_value : (p : Page) (name : List ℕ) (i : ℕ) (v : Value) → OnePage (AddsWithin p (value_text name i v) (length name + 22))
  pub put_registers : (p : Page) (rf : List Register) → OnePage (AddsWithin p (numbered register_text 0 rf) 736)
  -- then those whose promise is one equation
  pub read_record : (b : List ℕ) (number : ℕ) → OneAnswer (λ (r' : Option Record). r' ≡ found (get_elem? (Records.records b) number))
  pub write_record : (b : List ℕ) (number : ℕ) (r : Record) → OneAnswer (λ (r' : List ℕ). r' ≡ Records.replaced b number r)
  pub is_whole : (b : List ℕ) → OneAnswer (λ (r' : Bool). r' ≡ Records.is_whole b)
  pub judge : (refusal : Refusal) (formed count : ℕ) → OneAnswer (λ (r' : Result Unit Fault). r' ≡ judged refusal formed count)
  pub scan : (refusal : Refusal) (right : Record → Bool) (b : List ℕ) → OneAnswer (λ (r' : Result Unit Fault). r' ≡ scanned refusal right b)
  pub number : (refusal : Refusal) → OneAnswer (λ (r' : ℕ). r' ≡ number_of refusal)
  pub fault_from : (refusal : Refusal) → OneAnswer (λ (r' : Fault). r' ≡ fault refusal 0)
  pub operate : (n : ℕ) (x y : Value) → OneAnswer (λ (r' : Value). r' ≡ result_of n x y)
  pub read_instruction : (b : List ℕ) → OneAnswer (λ (r' : Result Instr Refusal). r' ≡ read_of b)
  pub fetch : (p : List ℕ) (a : InstrAddr) → OneAnswer (λ (r' : Result Instr Refusal). r' ≡ fetched p a)
  pub decode : (p : List ℕ) (a : InstrAddr) → OneAnswer (λ (r' : Result Instr Refusal). r' ≡ decoded p a)
  pub is_instruction : (r : Record) → OneAnswer (λ (r' : Bool). r' ≡ Program.is_instr r)
  pub scan_program : (p : List ℕ) → OneAnswer (λ (r' : Result Unit Fault). r' ≡ Program.scan_of p)
  pub is_cell : (r : Record) → OneAnswer (λ (r' : Bool). r' ≡ Cells.is_cell r)
  pub scan_memory : (b : List ℕ) → OneAnswer (λ (r' : Result Unit Fault). r' ≡ Cells.scan_of b)
  pub load : (b : List ℕ) (a : DataAddr) → OneAnswer (λ (r' : Result Value Refusal). r' ≡ load_from (cells b) a)
  pub check : (p b : List ℕ) → OneAnswer (λ (r' : Result Unit Fault). r' ≡ checked p b)
  pub read_at : (b : List ℕ) (a : Value) → OneAnswer (λ (r' : Result Value Refusal). r' ≡ Kernel.read_at (cells b) a)
  pub target : (v : Value) → OneAnswer (λ (r' : Result InstrAddr Refusal). r' ≡ Kernel.target v)
  pub in_order_start : OneAnswer (λ (r' : InOrder). r' ≡ Machine.start)
  pub in_order_enter : (p b : List ℕ) (s : InOrder) → OneAnswer (λ (r' : Result Unit Fault). r' ≡ InOrder.entered p b s)
  pub start : OneAnswer (λ (r' : State). r' ≡ state_of Mach.start)
  pub waits_for : (o : Operand) (t : Tag) → OneAnswer (λ (r' : Bool). r' ≡ waits t o)
  pub blank : OneAnswer (λ (r' : Template). r' ≡ Layout.blank)
  pub held : (ts : List Row) (n : ℕ) → OneAnswer (λ (r' : ℕ). r' ≡ min n (length ts))
  pub kind : (ts : List Row) (p : ℕ) → OneAnswer (λ (r' : ℕ). r' ≡ kind_at ts p)
  pub operation : (ts : List Row) (p : ℕ) → OneAnswer (λ (r' : ℕ). r' ≡ operation_at ts p)
  pub tag : (ts : List Row) (p : ℕ) → OneAnswer (λ (r' : Tag). r' ≡ tag_at ts p)
  pub address : (ts : List Row) (p : ℕ) → OneAnswer (λ (r' : InstrAddr). r' ≡ address_at ts p)
  pub value : (ts : List Row) (p : ℕ) → OneAnswer (λ (r' : Value). r' ≡ value_at ts p)
  pub first : (ts : List Row) (p : ℕ) → OneAnswer (λ (r' : Operand). r' ≡ first_at ts p)
  pub second : (ts : List Row) (p : ℕ) → OneAnswer (λ (r' : Operand). r' ≡ second_at ts p)
  pub contents : (rf : List ℕ) (i : ℕ) → OneAnswer (λ (r' : Operand). r' ≡ contents_at rf i)
  pub held_behind : (ts : List Row) (n p : ℕ) → OneAnswer (λ (r' : Bool). r' ≡ Rows.held_behind n p ts)
  pub memory_before : (ts : List Row) (n : ℕ) → OneAnswer (λ (r' : Bool). r' ≡ Rows.memory_before n ts)
  pub produced : (ts : List Row) (n : ℕ) (t : Tag) → OneAnswer (λ (r' : Bool). r' ≡ produced_in n t ts)
  pub held_by_register : (rf : List ℕ) (t : Tag) → OneAnswer (λ (r' : Bool). r' ≡ in_register t rf)
  pub filled_from : (ts : List Row) (from : ℕ) → OneAnswer (λ (r' : Bool). r' ≡ Rows.filled_from from ts)
  pub fill_behind : (ts : List Row) (n p : ℕ) → OneAnswer (λ (r' : List Row). r' ≡ filled_behind n p ts)
  pub remove : (ts : List Row) (n p : ℕ) → OneAnswer (λ (r' : List Row). r' ≡ without n p ts)
  pub finish : (ts : List Row) (p : ℕ) (v : Value) → OneAnswer (Finishes p v ts)
  pub fill_registers : (rf : List ℕ) (t : Tag) (v : Value) → OneAnswer (Fills t v rf)
  pub hold : (rf : List ℕ) (r : Reg) (o : Operand) → OneAnswer (Holds r o rf)
  pub put : (ts : List Row) (p : ℕ) (x : Template) → OneAnswer (Answers.Puts p x ts)
  pub coded : (o : Operand) → OneAnswer (Codes o)
  pub row : (x : Template) → OneAnswer (CodesRow (Layout.itb x))
  pub numbers : (rf : List Register) → OneAnswer (TurnsRegisters rf)
  pub turn_in : (ts : List Template) → OneAnswer (TurnsTemplates ts)
  pub rows : (ts : List Template) → OneAnswer (TurnsTemplates ts)
  pub template : (ts : List Row) (p : ℕ) → OneAnswer (λ (r' : Template). r' ≡ Layout.template (itb_of (row_at ts p)))
  pub templates : (ts : List Row) (n : ℕ) → OneAnswer (λ (r' : List Template). r' ≡ laid_templates n ts)
  pub registers : (rf : List ℕ) → OneAnswer (λ (r' : List Register). r' ≡ laid_registers rf)
  pub forward : (ts : List Row) (n p : ℕ) → OneAnswer (λ (r' : Result Unit Refusal). r' ≡ forwarding n p ts)
  pub commit : (ts : List Row) (rf : List ℕ) (p : ℕ) → OneAnswer (λ (r' : Result Unit Refusal). r' ≡ committing p ts rf)
  pub retire : (ts : List Row) (rf : List ℕ) (n p : ℕ) → OneAnswer (λ (r' : Result Unit Refusal). r' ≡ retiring n p ts rf)
  pub operate_at : (ts : List Row) (p : ℕ) → OneAnswer (λ (r' : Result Value Refusal). r' ≡ operating p ts)
  pub load_at : (ts : List Row) (p : ℕ) (b : List ℕ) → OneAnswer (λ (r' : Result Value Refusal). r' ≡ loading (cells b) p ts)
  pub store_at : (ts : List Row) (p : ℕ) → OneAnswer (λ (r' : Result (Value × Value) Refusal). r' ≡ stored_at p ts)
  pub jump : (ts : List Row) (p : ℕ) → OneAnswer (λ (r' : Result InstrAddr Refusal). r' ≡ jumping p ts)
  pub no_jump : (ts : List Row) (p : ℕ) → OneAnswer (λ (r' : Result Unit Refusal). r' ≡ falling p ts)
  pub refusal_on : (ts : List Row) (rf : List ℕ) (n : ℕ) (r : Rule) (p : ℕ) (b : List ℕ) → OneAnswer (λ (r' : Result Unit Refusal). r' ≡ Reading.refusal_on n p ts rf (cells b) r)
  pub enter : (p b : List ℕ) (s : State) → OneAnswer (Enters p b s)
  pub read_command : (rule place tag last : ℕ) → OneAnswer (λ (r' : Command). r' ≡ command_of rule place tag last)
  pub asks : (w : Work) → OneAnswer (λ (r' : Rule). r' ≡ Drain.asks w)
  pub refusal_at : (s : State) (r : Rule) (place : ℕ) (b : List ℕ) → OneAnswer (λ (r' : Result Unit Refusal). r' ≡ Drain.refusal_at r place (mach_of s) (cells b))
  pub is_sound : (s : State) (instructions : ℕ) → OneAnswer (λ (r' : Bool). r' ≡ Sound.is_sound instructions s)
  pub sound_on : (ts : List Row) (rf : List ℕ) (c : Counter) (n instructions : ℕ) → OneAnswer (λ (r' : Bool). r' ≡ Search.sound_on instructions c n ts rf)
