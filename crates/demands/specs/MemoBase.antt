-- The memo's section 4: the rules of the in-order machine, a constructor for each, with the scope paper's decisions where the memo is open.
use Rattle.std.specs.Prelude.{◌≡◌, ◌≢◌, ℕ, ◌<◌, List, length, set}
use Rattle.std.proofs.Math.Option.{some}
use Rattle.std.proofs.Math.ListN.{get_elem?}
use Rattle.value.specs.declared.Value.{Value}
use Rattle.value.specs.declared.Value.TheVariants.{Word}
use Rattle.value.specs.Operation.{result_of}
use Rattle.isa.specs.declared.InstrAddr.{InstrAddr}
use Rattle.isa.specs.declared.Reg.{Reg}
use Rattle.isa.specs.declared.Instr.{Instr}
use Rattle.isa.specs.declared.Instr.TheVariants.{Loadc, Loadpc, Op, Jz, Load, Store}
use Rattle.kernel.specs.Kernel.{instr_addr, next}
use Rattle.inorder.specs.declared.Register.{Register}
use Rattle.inorder.specs.declared.InOrder.{InOrder}
use Rattle.inorder.specs.Machine.{machine, held, put}
use Rattle.demands.specs.Memo.{Fetches}

abbrev pub Proc : InstrAddr → List Register → InOrder
Proc ia rf = machine ia rf

-- ---- the rules: the machine and memory on the left become those on the right

pub data Executes (prog : List Instr) : InOrder → List Value → InOrder → List Value → Type 0 where
  loadc : {ia : InstrAddr} {rf : List Register} {m : List Value} {r : Reg} {v : ℕ}
      → Fetches prog ia (Loadc r v)
      → Executes prog (Proc ia rf) m (Proc (next ia) (put rf r (Word v))) m
  loadpc : {ia : InstrAddr} {rf : List Register} {m : List Value} {r : Reg}
      → Fetches prog ia (Loadpc r)
      → Executes prog (Proc ia rf) m (Proc (next ia) (put rf r (Word ia.0))) m
  op : {ia : InstrAddr} {rf : List Register} {m : List Value} {n : ℕ} {r r₁ r₂ : Reg}
      → Fetches prog ia (Op r n r₁ r₂)
      → Executes prog (Proc ia rf) m (Proc (next ia) (put rf r (result_of n (held rf r₁) (held rf r₂)))) m
  jz_jump : {ia : InstrAddr} {rf : List Register} {m : List Value} {r₁ r₂ : Reg} {nia : ℕ}
      → Fetches prog ia (Jz r₁ r₂) → held rf r₁ ≡ Word 0 → held rf r₂ ≡ Word nia
      → Executes prog (Proc ia rf) m (Proc (instr_addr nia) rf) m
  -- the target may be undefined
  jz_no_jump : {ia : InstrAddr} {rf : List Register} {m : List Value} {r₁ r₂ : Reg} {v : ℕ}
      → Fetches prog ia (Jz r₁ r₂) → held rf r₁ ≡ Word v → v ≢ 0
      → Executes prog (Proc ia rf) m (Proc (next ia) rf) m
  -- an address inside memory
  load : {ia : InstrAddr} {rf : List Register} {m : List Value} {r r₁ : Reg} {a : ℕ} {v : Value}
      → Fetches prog ia (Load r r₁) → held rf r₁ ≡ Word a → get_elem? m a ≡ some v
      → Executes prog (Proc ia rf) m (Proc (next ia) (put rf r v)) m
  -- an undefined value may be stored
  store : {ia : InstrAddr} {rf : List Register} {m : List Value} {r₁ r₂ : Reg} {a : ℕ}
      → Fetches prog ia (Store r₁ r₂) → held rf r₁ ≡ Word a → a < length m
      → Executes prog (Proc ia rf) m (Proc (next ia) rf) (set m a (held rf r₂))
