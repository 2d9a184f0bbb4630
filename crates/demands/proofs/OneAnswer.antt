-- A promise of equations admits one answer.
use Prim.Native.Nat.{ℕ}
use mathlib.Core.Path.{◌≡◌, sym, ◌∙◌}
use mathlib.Core.List.{List}
use Rattle.text.specs.declared.Page.{Page}
use Rattle.text.specs.Page.{Adds}
use Rattle.lines.specs.Lines.{AddsWithin}
use Rattle.demands.specs.OneAnswer.{OneAnswer, OneAnswerAndBuffer, OneAnswerAndBuffers, OnePage, OneAnswers}

pub one_answer : {A : Type 0} (d : A) → OneAnswer (λ (r : A). r ≡ d)
one_answer d r r' e f = e ∙ sym f

-- the promise says what the answer and the buffer are
pub one_pair : {A : Type 0} (P : A → List ℕ → Type 0) {d : A} {c : List ℕ} → ((r : A) (b : List ℕ) → P r b → (r ≡ d) × (b ≡ c)) → OneAnswerAndBuffer P
one_pair P {d} {c} says r r' b b' e f =
    let g = says r b e in
    let h = says r' b' f in
    (one_answer d r r' g.0 h.0, one_answer c b b' g.1 h.1)

-- the promise says what the answer and both buffers are
pub one_triple : {A : Type 0} (P : A → List ℕ → List ℕ → Type 0) {d : A} {b₀ c₀ : List ℕ}
    → ((r : A) (b c : List ℕ) → P r b c → (r ≡ d) × (b ≡ b₀) × (c ≡ c₀))
    → OneAnswerAndBuffers P
one_triple P {d} {b₀} {c₀} says r r' b b' c c' e f =
    let g = says r b c e in
    let h = says r' b' c' f in
    (one_answer d r r' g.0 h.0, one_answer b₀ b b' g.1 h.1, one_answer c₀ c c' g.2 h.2)

-- so does the promise of a text on a page
one_page : {p : Page} {t : List ℕ} → OnePage (Adds p t)
one_page q q' e f = (e.text.next ∙ sym f.text.next, e.text.holds ∙ sym f.text.holds, e.same_buffer ∙ sym f.same_buffer)

one_page_within : {p : Page} {t : List ℕ} {k : ℕ} → OnePage (AddsWithin p t k)
one_page_within q q' e f =
    (e.puts.text.next ∙ sym f.puts.text.next, e.puts.text.holds ∙ sym f.puts.text.holds, e.same_buffer ∙ sym f.same_buffer)

pub one_answers : OneAnswers
one_answers =
    record {
      step = λ p s b one. one_pair _ (λ r b' e. (e.answer, e.bytes));
      run = λ p s b records. one_pair _ (λ r b' e. (e.answer, e.bytes));
      drain = λ p s b. one_pair _ (λ r b' e. (e.answer, e.bytes));
      in_order_step = λ p s b. one_pair _ (λ r b' e. (e.answer, e.bytes));
      in_order_run = λ p s b budget. one_pair _ (λ r b' e. (e.answer, e.bytes));
      write = λ i out. one_pair _ (λ r out' e. (e.answer, e.output));
      list = λ p out. one_pair _ (λ r out' e. (e.answer, e.output));
      store = λ b a v. one_pair _ (λ r b' e. (e.answer, e.bytes));
      write_at = λ b a v. one_pair _ (λ r b' e. (e.answer, e.bytes));
      shows = λ s b out. one_pair _ (λ r out' e. (e.answer, e.output));
      report = λ p b s out. one_triple _ (λ r b' out' e. (e.writes.answer, e.memory, e.writes.output));
      put_text = λ p t q q' e f. one_page q q' e f;
      put_decimal = λ p n q q' e f. one_page q q' e f;
      put_input = λ p file refusal number q q' e f. one_page_within q q' e f;
      put_ran = λ p accepted refusal issued q q' e f. one_page_within q q' e f;
      put_drained = λ p rules q q' e f. one_page_within q q' e f;
      put_blocked = λ p a refusal rules q q' e f. one_page_within q q' e f;
      put_counter = λ p c q q' e f. one_page_within q q' e f;
      put_value = λ p name i v q q' e f. one_page_within q q' e f;
      put_registers = λ p rf q q' e f. one_page_within q q' e f;
      read_record = λ b number. one_answer _;
      write_record = λ b number r. one_answer _;
      is_whole = λ b. one_answer _;
      judge = λ refusal formed count. one_answer _;
      scan = λ refusal right b. one_answer _;
      number = λ refusal. one_answer _;
      fault_from = λ refusal. one_answer _;
      operate = λ n x y. one_answer _;
      read_instruction = λ b. one_answer _;
      fetch = λ p a. one_answer _;
      decode = λ p a. one_answer _;
      is_instruction = λ r. one_answer _;
      scan_program = λ p. one_answer _;
      is_cell = λ r. one_answer _;
      scan_memory = λ b. one_answer _;
      load = λ b a. one_answer _;
      check = λ p b. one_answer _;
      read_at = λ b a. one_answer _;
      target = λ v. one_answer _;
      in_order_start = one_answer _;
      in_order_enter = λ p b s. one_answer _;
      start = one_answer _;
      waits_for = λ o t. one_answer _;
      blank = one_answer _;
      held = λ ts n. one_answer _;
      kind = λ ts p. one_answer _;
      operation = λ ts p. one_answer _;
      tag = λ ts p. one_answer _;
      address = λ ts p. one_answer _;
      value = λ ts p. one_answer _;
      first = λ ts p. one_answer _;
      second = λ ts p. one_answer _;
      contents = λ rf i. one_answer _;
      held_behind = λ ts n p. one_answer _;
      memory_before = λ ts n. one_answer _;
      produced = λ ts n t. one_answer _;
      held_by_register = λ rf t. one_answer _;
      filled_from = λ ts from. one_answer _;
      fill_behind = λ ts n p. one_answer _;
      remove = λ ts n p. one_answer _;
      finish = λ ts p v r r' e f. one_answer _ r r' e.rows f.rows;
      fill_registers = λ rf t v r r' e f. one_answer _ r r' e.numbers f.numbers;
      hold = λ rf x o r r' e f. one_answer _ r r' e.numbers f.numbers;
      put = λ ts p x r r' e f. one_answer _ r r' e.rows f.rows;
      coded = λ o r r' e f. one_answer _ r r' e.is f.is;
      row = λ x r r' e f. one_answer _ r r' e.is f.is;
      numbers = λ rf r r' e f. one_answer _ r r' e.numbers f.numbers;
      turn_in = λ ts r r' e f. one_answer _ r r' e.rows f.rows;
      rows = λ ts r r' e f. one_answer _ r r' e.rows f.rows;
      template = λ ts p. one_answer _;
      templates = λ ts n. one_answer _;
      registers = λ rf. one_answer _;
      forward = λ ts n p. one_answer _;
      commit = λ ts rf p. one_answer _;
      retire = λ ts rf n p. one_answer _;
      operate_at = λ ts p. one_answer _;
      load_at = λ ts p b. one_answer _;
      store_at = λ ts p. one_answer _;
      jump = λ ts p. one_answer _;
      no_jump = λ ts p. one_answer _;
      refusal_on = λ ts rf n r p b. one_answer _;
      enter = λ p b s r r' e f. one_answer _ r r' e.verdict f.verdict;
      read_command = λ rule place tag last. one_answer _;
      asks = λ w. one_answer _;
      refusal_at = λ s r place b. one_answer _;
      is_sound = λ s instructions. one_answer _;
      sound_on = λ ts rf c n instructions. one_answer _;
    }
