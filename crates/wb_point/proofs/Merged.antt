-- One state made of the merged terms of two.
use Rattle.std.proofs.Common.{◌≡◌, ℕ, zero, suc, ◌<◌, Bool, true, false, if◌then◌else◌, List, [], ◌∷◌, length, refl, sym, ap, ◌∙◌, subst, arith, lit<}
use Rattle.wb_term.specs.declared.nodes.WordId.{WordId}
use Rattle.wb_term.specs.declared.nodes.BitId.{BitId}
use Rattle.wb_term.specs.declared.nodes.Node.{Node}
use Rattle.wb_term.specs.Inputs.{Assignment, IsAssignment}
use Rattle.wb_term.specs.Terms.{Terms, HasWord, HasBit}
use Rattle.wb_term.specs.Values.{word_value, bit_value}
use Rattle.wb_term.specs.Under.{HasOnly}
use Rattle.wb_term.specs.Growth.{Grown}
use Rattle.wb_fold.specs.Ram.{word_in, AreWords, WordsHaveOnly, merged}
use Rattle.wb_fold.specs.Flags.{flags_value}
use Rattle.wb_machine.specs.State.{State}
use Rattle.wb_port.specs.declared.points.Shown.{Shown}
use Rattle.wb_symstep.specs.declared.state.SymState.{SymState}
use Rattle.wb_symstep.specs.State.{status, StandsFor, IsSymState, StateHasOnly}
use Rattle.wb_point.specs.Shows.{shows, SamePlace}
use Rattle.wb_point.specs.Lists.{bit_in, AreBits, BitsHaveOnly, merged_bit, word_list, bit_list, state_of}
use Rattle.wb_point.specs.Merging.{side_by, Merges}
use Rattle.wb_point.proofs.Growth.{◌▸◌}

-- a state in one graph and a state in another, with equal concrete parts and equal values
record Alike (i : Assignment) (g : Terms) (s : SymState) (h : Terms) (t : SymState) : Type 0 where
  place : shows s ≡ shows t
  rp : word_value i g s.rp ≡ word_value i h t.rp
  dp : word_value i g s.dp ≡ word_value i h t.dp
  a : word_value i g s.a ≡ word_value i h t.a
  b : word_value i g s.b ≡ word_value i h t.b
  tr : word_value i g s.tr ≡ word_value i h t.tr
  trb : word_value i g s.trb ≡ word_value i h t.trb
  k : word_value i g s.k ≡ word_value i h t.k
  l : word_value i g s.l ≡ word_value i h t.l
  dr : word_value i g s.dr ≡ word_value i h t.dr
  sr : word_value i g s.sr ≡ word_value i h t.sr
  so : word_value i g s.so ≡ word_value i h t.so
  flags_a : flags_value i g s.flags_a ≡ flags_value i h t.flags_a
  flags_b : flags_value i g s.flags_b ≡ flags_value i h t.flags_b
  ram : (k : ℕ) → k < 256 → word_value i g (word_in s.ram k) ≡ word_value i h (word_in t.ram k)

turned : (i : Assignment) (g h : Terms) (s t : SymState) → Alike i g s h t → Alike i h t g s
turned i g h s t x = record {
  place = sym x.place;
  rp = sym x.rp;
  dp = sym x.dp;
  a = sym x.a;
  b = sym x.b;
  tr = sym x.tr;
  trb = sym x.trb;
  k = sym x.k;
  l = sym x.l;
  dr = sym x.dr;
  sr = sym x.sr;
  so = sym x.so;
  flags_a = sym x.flags_a;
  flags_b = sym x.flags_b;
  ram = λ k h. sym (x.ram k h);
}

alike_stands : (i : Assignment) (g h : Terms) (s t : SymState) (m : State) → Alike i g s h t → StandsFor i g s m → StandsFor i h t m
alike_stands i g h s t m x st = record {
  pc = sym (ap (λ (p : Shown). p.pc) x.place) ∙ st.pc;
  sp = sym (ap (λ (p : Shown). p.sp) x.place) ∙ st.sp;
  stack = sym (ap (λ (p : Shown). p.stack) x.place) ∙ st.stack;
  rp = sym x.rp ∙ st.rp;
  dp = sym x.dp ∙ st.dp;
  a = sym x.a ∙ st.a;
  b = sym x.b ∙ st.b;
  tr = sym x.tr ∙ st.tr;
  trb = sym x.trb ∙ st.trb;
  k = sym x.k ∙ st.k;
  l = sym x.l ∙ st.l;
  dr = sym x.dr ∙ st.dr;
  sr = ap (status t.rqm t.drs) (sym x.sr) ∙ sym (ap (λ (p : Shown). status p.rqm p.drs (word_value i g s.sr)) x.place) ∙ st.sr;
  so = sym x.so ∙ st.so;
  flags_a = sym x.flags_a ∙ st.flags_a;
  flags_b = sym x.flags_b ∙ st.flags_b;
  ram = λ k h. sym (x.ram k h) ∙ st.ram k h;
}

-- what holds of each entry of a list holds of the entry of a place
abbrev EachWord : (WordId → Type 0) → List WordId → Type 0
EachWord P [] = Unit {0}
EachWord P (x ∷ xs) = P x × EachWord P xs

abbrev EachBit : (BitId → Type 0) → List BitId → Type 0
EachBit P [] = Unit {0}
EachBit P (x ∷ xs) = P x × EachBit P xs

word_of_each : (P : WordId → Type 0) (ids : List WordId) → EachWord P ids → (k : ℕ) → k < length ids → P (word_in ids k)
word_of_each P [] each k h = absurd (omega (arith, h))
word_of_each P (x ∷ xs) each zero h = each.0
word_of_each P (x ∷ xs) each (suc k) h = word_of_each P xs each.1 k (omega (arith, h))

bit_of_each : (P : BitId → Type 0) (ids : List BitId) → EachBit P ids → (k : ℕ) → k < length ids → P (bit_in ids k)
bit_of_each P [] each k h = absurd (omega (arith, h))
bit_of_each P (x ∷ xs) each zero h = each.0
bit_of_each P (x ∷ xs) each (suc k) h = bit_of_each P xs each.1 k (omega (arith, h))

word_of_list : (P : WordId → Type 0) (s : SymState) → EachWord P (word_list s) → (k : ℕ) → k < 11 → P (word_in (word_list s) k)
word_of_list P s each k h = word_of_each P (word_list s) each k h

bit_of_list : (P : BitId → Type 0) (s : SymState) → EachBit P (bit_list s) → (k : ℕ) → k < 12 → P (bit_in (bit_list s) k)
bit_of_list P s each k h = bit_of_each P (bit_list s) each k h

bits_there : (g : Terms) (s : SymState) → IsSymState g s → EachBit (HasBit g) (bit_list s)
bits_there g s is = (is.flags_a.c, (is.flags_a.z, (is.flags_a.s0, (is.flags_a.s1, (is.flags_a.ov0, (is.flags_a.ov1, (is.flags_b.c, (is.flags_b.z, (is.flags_b.s0, (is.flags_b.s1, (is.flags_b.ov0, (is.flags_b.ov1, tt))))))))))))

pub words_have_only : (g : Terms) (p : Node → Bool) (s : SymState) → StateHasOnly g p s → WordsHaveOnly g p (word_list s)
words_have_only g p s only = record { only = word_of_list (λ (x : WordId). HasOnly g p x.number) s (only.rp, (only.dp, (only.a, (only.b, (only.tr, (only.trb, (only.k, (only.l, (only.dr, (only.sr, (only.so, tt))))))))))) }

pub bits_have_only : (g : Terms) (p : Node → Bool) (s : SymState) → StateHasOnly g p s → BitsHaveOnly g p (bit_list s)
bits_have_only g p s only = record { only = bit_of_list (λ (x : BitId). HasOnly g p x.number) s (only.flags_a.0, (only.flags_a.1.0, (only.flags_a.1.1.0, (only.flags_a.1.1.1.0, (only.flags_a.1.1.1.1.0, (only.flags_a.1.1.1.1.1.0, (only.flags_b.0, (only.flags_b.1.0, (only.flags_b.1.1.0, (only.flags_b.1.1.1.0, (only.flags_b.1.1.1.1.0, (only.flags_b.1.1.1.1.1.0, tt)))))))))))) }

pub bits_only_kept : (g h : Terms) → Grown g h → (p : Node → Bool) (s : SymState) → IsSymState g s → StateHasOnly g p s → BitsHaveOnly h p (bit_list s)
bits_only_kept g h grown p s is only = record {
  only = λ k within. grown.bit_inputs p (bit_in (bit_list s) k) (bit_of_list (HasBit g) s (bits_there g s is) k within) ((bits_have_only g p s only).only k within);
}

pub cells_only_kept : (g h : Terms) → Grown g h → (p : Node → Bool) (s : SymState) → IsSymState g s → StateHasOnly g p s → WordsHaveOnly h p s.ram
cells_only_kept g h grown p s is only = record { only = λ k within. grown.word_inputs p (word_in s.ram k) (is.ram.there k within) (only.ram.only k within) }

-- equal lists for those of the calls
pub words_told : (g h : Terms) (c : BitId) (words xs ys vs ws : List WordId) → xs ≡ vs → ys ≡ ws → AreWords h words (λ i k. merged i g c xs ys k) → AreWords h words (λ i k. merged i g c vs ws k)
words_told g h c words xs ys vs ws one other are =
    subst (λ (zs : List WordId). AreWords h words (λ i k. merged i g c vs zs k)) other (subst (λ (zs : List WordId). AreWords h words (λ i k. merged i g c zs ys k)) one are)

pub bits_told : (g h : Terms) (c : BitId) (bits xs ys vs ws : List BitId) → xs ≡ vs → ys ≡ ws → AreBits h bits (λ i k. merged_bit i g c xs ys k) → AreBits h bits (λ i k. merged_bit i g c vs ws k)
bits_told g h c bits xs ys vs ws one other are =
    subst (λ (zs : List BitId). AreBits h bits (λ i k. merged_bit i g c vs zs k)) other (subst (λ (zs : List BitId). AreBits h bits (λ i k. merged_bit i g c zs ys k)) one are)

pub made_same : (s : SymState) (p q : Shown) (xs words : List WordId) (ys bits : List BitId) (ram : List WordId) → s ≡ state_of p xs ys ram → p ≡ q → xs ≡ words → ys ≡ bits → s ≡ state_of q words bits ram
made_same s p q xs words ys bits ram made place same_words same_bits =
    made ∙ ap (λ (z : Shown). state_of z xs ys ram) place ∙ ap (λ (z : List WordId). state_of q z ys ram) same_words ∙ ap (λ (z : List BitId). state_of q words z ram) same_bits

module _ (g0 g1 g2 g3 : Terms) (one : Grown g0 g1) (two : Grown g1 g2) (three : Grown g2 g3) (c : BitId) (has : HasBit g0 c)
    (first second : SymState) (is_first : IsSymState g0 first) (is_second : IsSymState g0 second) (same : SamePlace first second)
    (words : List WordId) (bits : List BitId) (ram : List WordId)
    (are_words : AreWords g1 words (λ i k. merged i g0 c (word_list first) (word_list second) k)) (word_count : length words ≡ 11)
    (are_bits : AreBits g2 bits (λ i k. merged_bit i g1 c (bit_list first) (bit_list second) k)) (bit_count : length bits ≡ 12)
    (are_cells : AreWords g3 ram (λ i k. merged i g2 c first.ram second.ram k)) (cell_count : length ram ≡ 256) where
  word_there : (k : ℕ) → k < 11 → HasWord g1 (word_in words k)
  word_there k h = (are_words.word k (subst (λ (n : ℕ). k < n) (sym word_count) h)).there

  bit_there : (k : ℕ) → k < 12 → HasBit g2 (bit_in bits k)
  bit_there k h = (are_bits.bit k (subst (λ (n : ℕ). k < n) (sym bit_count) h)).there

  cell_there : (k : ℕ) → k < 256 → HasWord g3 (word_in ram k)
  cell_there k h = (are_cells.word k (subst (λ (n : ℕ). k < n) (sym cell_count) h)).there

  word_in_all : (k : ℕ) → k < 11 → HasWord g3 (word_in words k)
  word_in_all k h = three.words _ (two.words _ (word_there k h))

  bit_in_all : (k : ℕ) → k < 12 → HasBit g3 (bit_in bits k)
  bit_in_all k h = three.bits _ (bit_there k h)

  pub merged_is_state : IsSymState g3 (state_of (shows first) words bits ram)
  merged_is_state = record {
    pc_in = is_first.pc_in;
    sp_in = is_first.sp_in;
    stack_length = is_first.stack_length;
    stack_in = is_first.stack_in;
    rp = word_in_all 0 (lit< tt);
    dp = word_in_all 1 (lit< tt);
    a = word_in_all 2 (lit< tt);
    b = word_in_all 3 (lit< tt);
    tr = word_in_all 4 (lit< tt);
    trb = word_in_all 5 (lit< tt);
    k = word_in_all 6 (lit< tt);
    l = word_in_all 7 (lit< tt);
    dr = word_in_all 8 (lit< tt);
    sr = word_in_all 9 (lit< tt);
    so = word_in_all 10 (lit< tt);
    flags_a = record { c = bit_in_all 0 (lit< tt); z = bit_in_all 1 (lit< tt); s0 = bit_in_all 2 (lit< tt); s1 = bit_in_all 3 (lit< tt); ov0 = bit_in_all 4 (lit< tt); ov1 = bit_in_all 5 (lit< tt) };
    flags_b = record { c = bit_in_all 6 (lit< tt); z = bit_in_all 7 (lit< tt); s0 = bit_in_all 8 (lit< tt); s1 = bit_in_all 9 (lit< tt); ov0 = bit_in_all 10 (lit< tt); ov1 = bit_in_all 11 (lit< tt) };
    ram_length = cell_count;
    ram = record { there = λ k h. (are_cells.word k h).there };
  }

  -- where the values of the entries are those of one side
  alike_one : (i : Assignment) (t : SymState) → shows first ≡ shows t
      → ((k : ℕ) → k < 11 → word_value i g3 (word_in words k) ≡ word_value i g0 (word_in (word_list t) k))
      → ((k : ℕ) → k < 12 → bit_value i g3 (bit_in bits k) ≡ bit_value i g0 (bit_in (bit_list t) k))
      → ((k : ℕ) → k < 256 → word_value i g3 (word_in ram k) ≡ word_value i g0 (word_in t.ram k))
      → Alike i g3 (state_of (shows first) words bits ram) g0 t
  alike_one i t place w b r = record {
    place = place;
    rp = w 0 (lit< tt);
    dp = w 1 (lit< tt);
    a = w 2 (lit< tt);
    b = w 3 (lit< tt);
    tr = w 4 (lit< tt);
    trb = w 5 (lit< tt);
    k = w 6 (lit< tt);
    l = w 7 (lit< tt);
    dr = w 8 (lit< tt);
    sr = w 9 (lit< tt);
    so = w 10 (lit< tt);
    flags_a = let c = b 0 (lit< tt) in let z = b 1 (lit< tt) in let s0 = b 2 (lit< tt) in let s1 = b 3 (lit< tt) in let ov0 = b 4 (lit< tt) in let ov1 = b 5 (lit< tt) in cc;
    flags_b = let c = b 6 (lit< tt) in let z = b 7 (lit< tt) in let s0 = b 8 (lit< tt) in let s1 = b 9 (lit< tt) in let ov0 = b 10 (lit< tt) in let ov1 = b 11 (lit< tt) in cc;
    ram = r;
  }

  bit_kept : (i : Assignment) → bit_value i g1 c ≡ bit_value i g0 c
  bit_kept i = one.bit_values i c has

  word_told : (i : Assignment) → IsAssignment i → (k : ℕ) → k < 11 → word_value i g3 (word_in words k) ≡ merged i g0 c (word_list first) (word_list second) k
  word_told i a k h =
      (two ▸ three).word_values i (word_in words k) (word_there k h)
      ∙ (are_words.word k (subst (λ (n : ℕ). k < n) (sym word_count) h)).value i a

  bit_told : (i : Assignment) → IsAssignment i → (k : ℕ) → k < 12 → bit_value i g3 (bit_in bits k) ≡ merged_bit i g1 c (bit_list first) (bit_list second) k
  bit_told i a k h =
      three.bit_values i (bit_in bits k) (bit_there k h)
      ∙ (are_bits.bit k (subst (λ (n : ℕ). k < n) (sym bit_count) h)).value i a

  cell_told : (i : Assignment) → IsAssignment i → (k : ℕ) → k < 256 → word_value i g3 (word_in ram k) ≡ merged i g2 c first.ram second.ram k
  cell_told i a k h = (are_cells.word k (subst (λ (n : ℕ). k < n) (sym cell_count) h)).value i a

  cell_kept : (i : Assignment) (t : SymState) → IsSymState g0 t → (k : ℕ) → k < 256 → word_value i g2 (word_in t.ram k) ≡ word_value i g0 (word_in t.ram k)
  cell_kept i t is k h = (one ▸ two).word_values i (word_in t.ram k) (is.ram.there k (subst (λ (n : ℕ). k < n) (sym is.ram_length) h))

  flag_kept : (i : Assignment) (t : SymState) → IsSymState g0 t → (k : ℕ) → k < 12 → bit_value i g1 (bit_in (bit_list t) k) ≡ bit_value i g0 (bit_in (bit_list t) k)
  flag_kept i t is k h = one.bit_values i (bit_in (bit_list t) k) (bit_of_list (HasBit g0) t (bits_there g0 t is) k h)

  alike_first : (i : Assignment) → IsAssignment i → bit_value i g0 c ≡ true → Alike i g3 (state_of (shows first) words bits ram) g0 first
  alike_first i a e =
      alike_one i first refl
      (λ k h. word_told i a k h ∙ ap (λ (b : Bool). if b then word_value i g0 (word_in (word_list first) k) else word_value i g0 (word_in (word_list second) k)) e)
      (λ k h. bit_told i a k h ∙ ap (λ (b : Bool). if b then bit_value i g1 (bit_in (bit_list first) k) else bit_value i g1 (bit_in (bit_list second) k)) (bit_kept i ∙ e) ∙ flag_kept i first is_first k h)
      (λ k h. cell_told i a k h ∙ ap (λ (b : Bool). if b then word_value i g2 (word_in first.ram k) else word_value i g2 (word_in second.ram k)) (two.bit_values i c (one.bits c has) ∙ bit_kept i ∙ e) ∙ cell_kept i first is_first k h)

  alike_second : (i : Assignment) → IsAssignment i → bit_value i g0 c ≡ false → Alike i g3 (state_of (shows first) words bits ram) g0 second
  alike_second i a e =
      alike_one i second same
      (λ k h. word_told i a k h ∙ ap (λ (b : Bool). if b then word_value i g0 (word_in (word_list first) k) else word_value i g0 (word_in (word_list second) k)) e)
      (λ k h. bit_told i a k h ∙ ap (λ (b : Bool). if b then bit_value i g1 (bit_in (bit_list first) k) else bit_value i g1 (bit_in (bit_list second) k)) (bit_kept i ∙ e) ∙ flag_kept i second is_second k h)
      (λ k h. cell_told i a k h ∙ ap (λ (b : Bool). if b then word_value i g2 (word_in first.ram k) else word_value i g2 (word_in second.ram k)) (two.bit_values i c (one.bits c has) ∙ bit_kept i ∙ e) ∙ cell_kept i second is_second k h)

  alike_side : (i : Assignment) → IsAssignment i → Alike i g3 (state_of (shows first) words bits ram) g0 (side_by i g0 c first second)
  alike_side i a = by (bit_value i g0 c) refl where
    by : (b : Bool) → bit_value i g0 c ≡ b → Alike i g3 (state_of (shows first) words bits ram) g0 (if b then first else second)
    by true e = alike_first i a e
    by false e = alike_second i a e

  pub merged_stands : Merges g0 g3 c first second (state_of (shows first) words bits ram)
  merged_stands i a m = (
    alike_stands i g3 g0 _ _ m (alike_side i a),
    alike_stands i g0 g3 _ _ m (turned i g3 g0 _ _ (alike_side i a)),
  )

  pub merged_has_only : (p : Node → Bool) → WordsHaveOnly g1 p words → BitsHaveOnly g2 p bits → WordsHaveOnly g3 p ram
      → StateHasOnly g3 p (state_of (shows first) words bits ram)
  merged_has_only p ws bs rs = record {
    rp = word_only 0 (lit< tt);
    dp = word_only 1 (lit< tt);
    a = word_only 2 (lit< tt);
    b = word_only 3 (lit< tt);
    tr = word_only 4 (lit< tt);
    trb = word_only 5 (lit< tt);
    k = word_only 6 (lit< tt);
    l = word_only 7 (lit< tt);
    dr = word_only 8 (lit< tt);
    sr = word_only 9 (lit< tt);
    so = word_only 10 (lit< tt);
    flags_a = (bit_only 0 (lit< tt), (bit_only 1 (lit< tt), (bit_only 2 (lit< tt), (bit_only 3 (lit< tt), (bit_only 4 (lit< tt), (bit_only 5 (lit< tt), tt))))));
    flags_b = (bit_only 6 (lit< tt), (bit_only 7 (lit< tt), (bit_only 8 (lit< tt), (bit_only 9 (lit< tt), (bit_only 10 (lit< tt), (bit_only 11 (lit< tt), tt))))));
    ram = rs;
  } where
    word_only : (k : ℕ) → k < 11 → HasOnly g3 p (word_in words k).number
    word_only k h = (two ▸ three).word_inputs p (word_in words k) (word_there k h) (ws.only k (subst (λ (n : ℕ). k < n) (sym word_count) h))

    bit_only : (k : ℕ) → k < 12 → HasOnly g3 p (bit_in bits k).number
    bit_only k h = three.bit_inputs p (bit_in bits k) (bit_there k h) (bs.only k (subst (λ (n : ℕ). k < n) (sym bit_count) h))
