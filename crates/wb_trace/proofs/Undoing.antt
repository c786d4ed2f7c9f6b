-- Moves that stand and are taken back.
use Rattle.std.proofs.Common.{◌≡◌, ℕ, zero, suc, ◌+◌, ◌-◌, ◌≤◌, min, List, [], ◌∷◌, ◌++◌, length, refl, sym, ◌∙◌, ap, subst, arith, append_assoc}
use Rattle.std.specs.Prelude.{replicate}
use Rattle.std.proofs.lemmas.Bool.{ne_eqb}
use Rattle.wb_rom.specs.declared.images.Image.{Image}
use Rattle.wb_trace.specs.declared.moves.Move.{Move}
use Rattle.wb_trace.specs.declared.moves.Move.TheVariants.{Undo}
use Rattle.wb_trace.specs.Standing.{Standing, added, taken_back, after_move, after_moves}
use Rattle.wb_trace.specs.Laws.{AllStand, UndosGiveBack}
use Rattle.wb_trace.proofs.Lists.{all_but_last}

module _ (a b : Image) (depth : ℕ) where
  after-append : (xs ys : List Move) (s : Standing) → after_moves a b depth (xs ++ ys) s ≡ after_moves a b depth ys (after_moves a b depth xs s)
  after-append [] ys s = refl
  after-append (x ∷ xs) ys s = after-append xs ys (after_move a b depth x s)

  -- what stands again after so many moves and undos, with at least so many still to take back
  record IsBack (s t : Standing) (count : ℕ) : Type 0 where
    same : t.moves ≡ s.moves
    many : min (s.undoable + count) depth - count ≤ t.undoable

  -- one undo more
  one_back : (s t : Standing) (mv : Move) (count : ℕ) → suc count ≤ depth → IsBack (added depth mv s) t count → IsBack s (taken_back t) (suc count)
  one_back s t mv count room back =
      let many = back.many in
      let some : 1 ≤ t.undoable = omega arith in
      rw (ne_eqb t.undoable 0 (λ e. absurd (omega arith)))
      (record {
        same = rw back.same (all_but_last s.moves mv);
        many = omega arith;
      })

  replicate_more : (count : ℕ) → replicate (suc count) Undo ≡ replicate count Undo ++ (Undo ∷ [])
  replicate_more zero = refl
  replicate_more (suc count) = ap (λ ms. Undo ∷ ms) (replicate_more count)

  all_back : (moves : List Move) (s : Standing) → AllStand a b depth moves s → length moves ≤ depth → IsBack s (after_moves a b depth (moves ++ replicate (length moves) Undo) s) (length moves)
  all_back [] s all room = record { same = refl; many = omega arith }
  all_back (mv ∷ moves) s all room =
      let count = length moves in
      let first = added depth mv s in
      let P : Standing → Type 0 = λ t. AllStand a b depth moves t in
      let back = all_back moves first (subst P all.0 all.1) (omega arith) in
      let last : after_moves a b depth (moves ++ replicate (suc count) Undo) (after_move a b depth mv s) ≡ taken_back (after_moves a b depth (moves ++ replicate count Undo) first) =
      ap (λ us. after_moves a b depth (moves ++ us) (after_move a b depth mv s)) (replicate_more count)
      ∙ ap (λ ms. after_moves a b depth ms (after_move a b depth mv s)) (sym (append_assoc moves (replicate count Undo) (Undo ∷ [])))
      ∙ ap (after_moves a b depth ((moves ++ replicate count Undo) ++ (Undo ∷ []))) all.0
      ∙ after-append (moves ++ replicate count Undo) (Undo ∷ []) first
      in
      let Q : Standing → Type 0 = λ t. IsBack s t (suc count) in
      subst Q (sym last) (one_back s (after_moves a b depth (moves ++ replicate count Undo) first) mv count room back)

pub undos_give_back : UndosGiveBack
undos_give_back a b depth moves s all room = (all_back a b depth moves s all room).same
