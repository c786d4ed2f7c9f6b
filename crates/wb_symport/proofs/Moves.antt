-- What a transfer makes of a state and of the machines for which it stands.
use Rattle.std.proofs.Common.{◌≡◌, ℕ, ◌/◌, ◌%◌, ◌==◌, Bool, true, false, if◌then◌else◌, ap, sym, ◌∙◌, refl, subst, arith, slice_get}
use Rattle.wb_term.specs.declared.nodes.WordId.{WordId}
use Rattle.wb_term.specs.declared.nodes.BitId.{BitId}
use Rattle.wb_term.specs.Inputs.{Assignment}
use Rattle.wb_term.specs.Terms.{Terms}
use Rattle.wb_term.specs.Values.{word_value}
use Rattle.wb_machine.specs.State.{State}
use Rattle.wb_port.specs.Port.{drs, drc, status_byte, byte_read, after_read, after_write, transferred, half_of, half_replaced, ported}
use Rattle.wb_symstep.specs.declared.state.SymState.{SymState}
use Rattle.wb_symstep.specs.declared.stepped.Stepped.{Stepped}
use Rattle.wb_symstep.specs.declared.stepped.Stepped.TheVariants.{One, Fork}
use Rattle.wb_symstep.specs.State.{status, StandsFor}
use Rattle.wb_symstep.specs.Stepped.{is_known}
use Rattle.wb_symport.specs.After.{rqm_after, drs_after, transferred_to, ForksBy}
use Rattle.wb_symport.specs.Transfer.{SaysDrc, ForksAtOpenDrc}

-- DRS and DRC in a status register
status_drs : (r d : Bool) (w : ℕ) → (status r d w / 4096 % 2 == 1) ≡ d
status_drs true true w = let e : status true true w / 4096 % 2 ≡ 1 = omega arith in ap (λ (n : ℕ). n == 1) e
status_drs false true w = let e : status false true w / 4096 % 2 ≡ 1 = omega arith in ap (λ (n : ℕ). n == 1) e
status_drs true false w = let e : status true false w / 4096 % 2 ≡ 0 = omega arith in ap (λ (n : ℕ). n == 1) e
status_drs false false w = let e : status false false w / 4096 % 2 ≡ 0 = omega arith in ap (λ (n : ℕ). n == 1) e

status_drc : (r d : Bool) (w : ℕ) → status r d w / 1024 % 2 ≡ w / 1024 % 2
status_drc true true w = omega arith
status_drc false true w = omega arith
status_drc true false w = omega arith
status_drc false false w = omega arith

-- the status register after a transfer
status_moved : (single d r : Bool) (w : ℕ) → status (rqm_after single d r) (drs_after single d) w ≡ transferred single d (status r d w)
status_moved true true true w = omega arith
status_moved true true false w = omega arith
status_moved true false true w = omega arith
status_moved true false false w = omega arith
status_moved false true true w = omega arith
status_moved false true false w = omega arith
status_moved false false true w = omega arith
status_moved false false false w = omega arith

module _ (inputs : Assignment) (g : Terms) (s : SymState) (m : State) (st : StandsFor inputs g s m) where
  pub drs_told : drs m ≡ s.drs
  unfolding drs
  drs_told = ap (λ (n : ℕ). n / 4096 % 2 == 1) (sym st.sr) ∙ status_drs s.rqm s.drs (word_value inputs g s.sr)

  pub drc_told : drc m ≡ (word_value inputs g s.sr / 1024 % 2 == 1)
  unfolding drc
  drc_told = ap (λ (n : ℕ). n / 1024 % 2 == 1) (sym st.sr) ∙ ap (λ (n : ℕ). n == 1) (status_drc s.rqm s.drs (word_value inputs g s.sr))

  pub status_told : (n : ℕ) → n ≡ status s.rqm s.drs (word_value inputs g s.sr) / 256 → n ≡ status_byte m
  unfolding status_byte
  status_told n e = e ∙ ap (λ (k : ℕ). k / 256) st.sr

  pub byte_told : (n w : ℕ) (b : Bool) → b ≡ drc m → w ≡ word_value inputs g s.dr → n ≡ half_of b s.drs w → n ≡ byte_read m
  unfolding byte_read
  byte_told n w b single same e =
      e ∙ ap (λ (x : Bool). half_of x s.drs w) single ∙ ap (λ (x : Bool). half_of (drc m) x w) (sym drs_told)
      ∙ ap (half_of (drc m) (drs m)) (same ∙ st.dr)

  stands_ported : (single : Bool) → single ≡ drc m → (dr : WordId) (d : ℕ) → word_value inputs g dr ≡ d
      → StandsFor inputs g (transferred_to single dr s) (ported d (transferred (drc m) (drs m) m.regs.sr) m)
  stands_ported single same dr d is = record {
    pc = st.pc;
    sp = st.sp;
    stack = st.stack;
    rp = st.rp;
    dp = st.dp;
    a = st.a;
    b = st.b;
    tr = st.tr;
    trb = st.trb;
    k = st.k;
    l = st.l;
    dr = is;
    sr = status_moved single s.drs s.rqm (word_value inputs g s.sr)
        ∙ ap (transferred single s.drs) st.sr
        ∙ ap (λ (x : Bool). transferred x s.drs m.regs.sr) same
        ∙ ap (λ (x : Bool). transferred (drc m) x m.regs.sr) (sym drs_told);
    so = st.so;
    flags_a = st.flags_a;
    flags_b = st.flags_b;
    ram = st.ram;
  }

  same_word : (b : Bool) (x : WordId) → (if b then x else x) ≡ x
  same_word true x = refl
  same_word false x = refl

  pub read_stands : (b : Bool) → b ≡ drc m → (r : SymState) → r ≡ transferred_to b (if b then s.dr else s.dr) s → StandsFor inputs g r (after_read m)
  unfolding after_read
  read_stands b single r is =
      subst (λ (x : SymState). StandsFor inputs g x (after_read m)) (sym is)
      (stands_ported b single (if b then s.dr else s.dr) m.regs.dr (ap (word_value inputs g) (same_word b s.dr) ∙ st.dr))

  pub write_stands : (b : Bool) → b ≡ drc m → (dr : WordId) (byte w : ℕ) → w ≡ word_value inputs g s.dr → word_value inputs g dr ≡ half_replaced b s.drs byte w
      → (r : SymState) → r ≡ transferred_to b dr s → StandsFor inputs g r (after_write byte m)
  unfolding after_write
  write_stands b single dr byte w same value r is =
      subst (λ (x : SymState). StandsFor inputs g x (after_write byte m)) (sym is)
      (stands_ported b single dr (half_replaced (drc m) (drs m) byte m.regs.dr)
      (value ∙ ap (λ (x : Bool). half_replaced x s.drs byte w) single ∙ ap (λ (x : Bool). half_replaced (drc m) x byte w) (sym drs_told)
      ∙ ap (half_replaced (drc m) (drs m) byte) (same ∙ st.dr)))

pub forks_told : (old new : Terms) (s : SymState) (c : BitId) → SaysDrc old new s c → (r : Stepped) → ForksBy new c r → ForksAtOpenDrc old new s r
forks_told old new s c says (One next) by = tt
forks_told old new s c says (Fork d first second) by =
    (subst (SaysDrc old new s) (sym by.0) says, subst (λ (x : BitId). is_known (slice_get new.nodes x.number) ≡ false) (sym by.0) by.1)
