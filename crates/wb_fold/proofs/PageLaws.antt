-- The words of a RAM's pages.
use Rattle.std.proofs.Common.{◌≡◌, ℕ, ◌+◌, ◌-◌, ◌*◌, ◌/◌, ◌%◌, ◌<◌, ◌≤◌, zero, suc, Bool, true, true≢false, List, [], ◌∷◌, ◌++◌, length, set, get_or, take, drop, refl, sym, ap, ◌∙◌, subst, arith, length-append}
use Rattle.std.proofs.lemmas.List.{append-nil, take_more, length-drop, length-take-le, length_push, get_or_append_left, get_or-append_right, set-append_left, set-append_right}
use Rattle.std.proofs.Math.Seq.{take-add}
use Rattle.std.proofs.lemmas.Grind.{common_steps, flat_map-append}
use Rattle.std.proofs.lemmas.Bool.{and_parts}
use Rattle.std.specs.Cmp.Lexicographic.{pointwise}
use Rattle.wb_term.specs.contracts.nodes.WordIdPartialEq.TheImpl.{ghosts}
use Rattle.std.specs.List.{AllZip}
use Rattle.std.proofs.lemmas.Slice.Zip.{AllZip-long}
use Rattle.std.specs.declared.rc.Rc.{Rc}
use Rattle.wb_term.specs.declared.nodes.WordId.{WordId}
use Rattle.wb_fold.specs.declared.page.Page.{Page}
use Rattle.wb_fold.specs.Ram.{word_in}
use Rattle.wb_fold.specs.Pages.{cells, all_cells, AreFull, ArePages}

pub all_cells-len : {Z : Type 0} (ps : List (Rc Page Z)) → AreFull ps → length (all_cells ps) ≡ 16 * length ps
all_cells-len [] full = refl
all_cells-len (p ∷ ps) full =
    let rest = all_cells-len ps full.1 in
    let here = full.0 in
    omega (arith, length-append (cells p) (all_cells ps), rest, here)

pub pages_len : {Z : Type 0} (ps : List (Rc Page Z)) (words : List WordId) → all_cells ps ≡ words → ArePages ps → length words ≡ 256
pages_len ps words e are = sym (ap length e) ∙ all_cells-len ps are.full ∙ ap (λ (n : ℕ). 16 * n) are.count

pub all_cells-push : {Z : Type 0} (ps : List (Rc Page Z)) (p : Rc Page Z) → all_cells (ps ++ p ∷ []) ≡ all_cells ps ++ cells p
all_cells-push ps p = flat_map-append cells ps (p ∷ []) ∙ ap (λ (ws : List WordId). all_cells ps ++ ws) (append-nil (cells p))

pub AreFull-push : {Z : Type 0} (ps : List (Rc Page Z)) (p : Rc Page Z) → AreFull ps → length (cells p) ≡ 16 → AreFull (ps ++ p ∷ [])
AreFull-push [] p full h = (h, tt)
AreFull-push (q ∷ ps) p full h = (full.0, AreFull-push ps p full.1 h)

pub AreFull-set : {Z : Type 0} (ps : List (Rc Page Z)) (i : ℕ) (p : Rc Page Z) → AreFull ps → length (cells p) ≡ 16 → AreFull (set ps i p)
AreFull-set [] i p full h = full
AreFull-set (q ∷ ps) zero p full h = (h, full.1)
AreFull-set (q ∷ ps) (suc i) p full h = (full.0, AreFull-set ps i p full.1 h)

pub all_cells-read : {Z : Type 0} (ps : List (Rc Page Z)) (i j at : ℕ) (e : Rc Page Z) (d : WordId) → AreFull ps → i < length ps → j < 16 → at ≡ 16 * i + j →
    get_or (all_cells ps) at d ≡ get_or (cells (get_or ps i e)) j d
all_cells-read [] i j at e d full within fits place = absurd (omega (arith, within))
all_cells-read (p ∷ ps) zero j at e d full within fits place =
    let here : at ≡ j = omega (arith, place) in
    let inside : at < length (cells p) = omega (arith, here, fits, full.0) in
    get_or_append_left (cells p) (all_cells ps) d at inside ∙ ap (λ (n : ℕ). get_or (cells p) n d) here
all_cells-read (p ∷ ps) (suc i) j at e d full within fits place =
    let beyond : 16 ≤ at = omega (arith, place) in
    let rest : at - 16 ≡ 16 * i + j = omega (arith, place) in
    let inner : i < length ps = omega (arith, within) in
    get_or-append_right (cells p) (all_cells ps) 16 at d full.0 beyond ∙ all_cells-read ps i j (at - 16) e d full.1 inner fits rest

pub all_cells-set : {Z : Type 0} (ps : List (Rc Page Z)) (i j at : ℕ) (e p : Rc Page Z) (w : WordId) → AreFull ps → i < length ps → j < 16 → at ≡ 16 * i + j →
    cells p ≡ set (cells (get_or ps i e)) j w → all_cells (set ps i p) ≡ set (all_cells ps) at w
all_cells-set [] i j at e p w full within fits place is = absurd (omega (arith, within))
all_cells-set (q ∷ ps) zero j at e p w full within fits place is =
    let here : j ≡ at = omega (arith, place) in
    let inside : at < length (cells q) = omega (arith, here, fits, full.0) in
    ap (λ (ws : List WordId). ws ++ all_cells ps) (is ∙ ap (λ (n : ℕ). set (cells q) n w) here) ∙ sym (set-append_left (cells q) (all_cells ps) at w inside)
all_cells-set (q ∷ ps) (suc i) j at e p w full within fits place is =
    let beyond : 16 ≤ at = omega (arith, place) in
    let rest : at - 16 ≡ 16 * i + j = omega (arith, place) in
    let inner : i < length ps = omega (arith, within) in
    ap (λ (ws : List WordId). cells q ++ ws) (all_cells-set ps i j (at - 16) e p w full.1 inner fits rest is)
    ∙ sym (set-append_right (cells q) (all_cells ps) 16 at w full.0 beyond)

-- the pages of the first words of a list
pub record HoldFirst {Z : Type 0} (ps : List (Rc Page Z)) (words : List WordId) (at : ℕ) : Type 0 where
  pub count : length ps ≡ at
  pub full : AreFull ps
  pub holds : all_cells ps ≡ take (16 * at) words

pub hold_more : {Z : Type 0} (ps after : List (Rc Page Z)) (p : Rc Page Z) (words : List WordId) (at n : ℕ) → HoldFirst ps words at → at < 16 → length words ≡ 256 →
    after ≡ ps ++ p ∷ [] → n ≡ 16 → cells p ≡ take n (drop (16 * at) words) → HoldFirst after words (at + 1)
hold_more {Z} ps after p words at n so within len is sized cut =
    let page = cut ∙ ap (λ (m : ℕ). take m (drop (16 * at) words)) sized in
    let fits : 16 ≤ length (drop (16 * at) words) = omega (arith, length-drop (16 * at) words, len, within) in
    let sixteen : length (cells p) ≡ 16 = ap length page ∙ length-take-le 16 (drop (16 * at) words) fits in
    subst (λ (qs : List (Rc Page Z)). HoldFirst qs words (at + 1)) (sym is) (record {
      count = length_push ps p ∙ ap (λ (n : ℕ). n + 1) so.count;
      full = AreFull-push ps p so.full sixteen;
      holds = all_cells-push ps p ∙ ap (λ (ws : List WordId). ws ++ cells p) so.holds ∙ ap (λ (ws : List WordId). take (16 * at) words ++ ws) page
          ∙ sym (take-add (16 * at) 16 words) ∙ ap (λ (n : ℕ). take n words) (omega arith);
    })

pub hold_all : {Z : Type 0} (ps : List (Rc Page Z)) (words : List WordId) → HoldFirst ps words 16 → ArePages ps
hold_all ps words so = record { count = so.count; full = so.full }

-- clones of pages
pub all_cells-same : {Z : Type 0} (ps copies : List (Rc Page Z)) → AllZip (λ p copy. copy.value ≡ p.value) ps copies → all_cells copies ≡ all_cells ps
all_cells-same [] [] same = refl
all_cells-same [] (q ∷ qs) same = absurd same
all_cells-same (p ∷ ps) [] same = absurd same
all_cells-same (p ∷ ps) (q ∷ qs) same =
    ap (λ (page : Page). page.cells ++ all_cells qs) same.0 ∙ ap (λ (ws : List WordId). cells p ++ ws) (all_cells-same ps qs same.1)

AreFull-same : {Z : Type 0} (ps copies : List (Rc Page Z)) → AllZip (λ p copy. copy.value ≡ p.value) ps copies → AreFull ps → AreFull copies
AreFull-same [] [] same full = tt
AreFull-same [] (q ∷ qs) same full = absurd same
AreFull-same (p ∷ ps) [] same full = absurd same
AreFull-same (p ∷ ps) (q ∷ qs) same full = (ap (λ (page : Page). length page.cells) same.0 ∙ full.0, AreFull-same ps qs same.1 full.1)

pub ArePages-same : {Z : Type 0} (ps copies : List (Rc Page Z)) → AllZip (λ p copy. copy.value ≡ p.value) ps copies → ArePages ps → ArePages copies
ArePages-same ps copies same are = record {
  count = AllZip-long (λ p copy. copy.value ≡ p.value) ps copies same ∙ are.count;
  full = AreFull-same ps copies same are.full;
}

pub copied_more : {Z : Type 0} (ps : List (Rc Page Z)) (i : ℕ) (before after : List WordId) (d p : Rc Page Z) → i < length ps → before ≡ all_cells (take i ps) →
    p ≡ get_or ps i d → after ≡ before ++ cells p → after ≡ all_cells (take (i + 1) ps)
copied_more {Z} ps i before after d p within so read is =
    is ∙ ap (λ (ws : List WordId). ws ++ cells p) so ∙ ap (λ (q : Rc Page Z). all_cells (take i ps) ++ cells q) read
    ∙ sym (all_cells-push (take i ps) (get_or ps i d)) ∙ ap all_cells (sym (take_more ps i d within))

-- the equality of words, as the code tests it
abbrev pub word_eq : WordId → WordId → Bool
word_eq = ghosts.eq

word_eq-same : (x y : WordId) → word_eq x y ≡ true → x ≡ y
word_eq-same x y h = grind (arith, common_steps)

pub same_words : (xs ys : List WordId) → pointwise word_eq xs ys ≡ true → xs ≡ ys
same_words [] [] h = refl
same_words [] (y ∷ ys) h = absurd (true≢false (sym h))
same_words (x ∷ xs) [] h = absurd (true≢false (sym h))
same_words (x ∷ xs) (y ∷ ys) h =
    let parts = and_parts (word_eq x y) (pointwise word_eq xs ys) h in
    ap (λ (w : WordId). w ∷ xs) (word_eq-same x y parts.0) ∙ ap (λ (ws : List WordId). y ∷ ws) (same_words xs ys parts.1)

-- the entry of an address
pub entry_read : {Z : Type 0} (ps : List (Rc Page Z)) (words : List WordId) (dp i j : ℕ) (p : Rc Page Z) (page : Page) → all_cells ps ≡ words → ArePages ps → dp < 256 →
    i ≡ dp / 16 → j ≡ dp % 16 → p ≡ get_or ps i p → page ≡ p.value → get_or page.cells j (record { number = 0 }) ≡ word_in words dp
entry_read {Z} ps words dp i j p page is are within high low read inner =
    let place : dp ≡ 16 * i + j = omega (arith, high, low) in
    let count = are.count in
    let inside : i < length ps = omega (arith, high, within, count) in
    let fits : j < 16 = omega (arith, low) in
    ap (λ (q : Page). get_or q.cells j (record { number = 0 })) (inner ∙ ap (λ (q : Rc Page Z). q.value) read)
    ∙ sym (all_cells-read ps i j dp p (record { number = 0 }) are.full inside fits place)
    ∙ ap (λ (ws : List WordId). word_in ws dp) is

-- the words after an entry is replaced
pub entry_replaced : {Z : Type 0} (ps : List (Rc Page Z)) (words : List WordId) (dp i j : ℕ) (p copy : Rc Page Z) (page : Page) (w : WordId) → all_cells ps ≡ words → ArePages ps →
    dp < 256 → i ≡ dp / 16 → j ≡ dp % 16 → p ≡ get_or ps i p → page ≡ p.value → cells copy ≡ set page.cells j w → all_cells (set ps i copy) ≡ set words dp w
entry_replaced {Z} ps words dp i j p copy page w is are within high low read inner written =
    let place : dp ≡ 16 * i + j = omega (arith, high, low) in
    let count = are.count in
    let inside : i < length ps = omega (arith, high, within, count) in
    let fits : j < 16 = omega (arith, low) in
    all_cells-set ps i j dp p copy w are.full inside fits place
    (written ∙ ap (λ (q : Page). set q.cells j w) (inner ∙ ap (λ (q : Rc Page Z). q.value) read))
    ∙ ap (λ (ws : List WordId). set ws dp w) is
