-- How a proof tells expressions apart. No public clause cites this.
use Rattle.std.specs.Prelude.{◌≡◌, ℕ, zero, suc, List, refl}
use Rattle.std.proofs.Common.{sym, ap, ◌∙◌}
use Rattle.std.specs.Coded.{Coded, coded_list}
use base.Stored.{Gv, gnil, gnum, gcons}
use Rattle.wb_syntax.specs.Tree.{Tree, Number, Label, Here, Minus, Plus, Less, Times}

abbrev number_at : Gv → ℕ
number_at gnil = 0
number_at (gnum number) = number
number_at (gcons a b) = 0

abbrev pub code_of : Tree → Gv
code_of (Number number) = gcons (gnum 0) (gnum number)
code_of (Label label) = gcons (gnum 1) (gcons (gnum label.start) (gnum label.end))
code_of Here = gnil
code_of (Minus x) = gcons (gnum 2) (code_of x)
code_of (Plus x y) = gcons (gnum 3) (gcons (code_of x) (code_of y))
code_of (Less x y) = gcons (gnum 4) (gcons (code_of x) (code_of y))
code_of (Times x y) = gcons (gnum 5) (gcons (code_of x) (code_of y))

-- the expression of a code
abbrev tree_of : Gv → Tree
tree_of (gcons (gnum zero) n) = Number (number_at n)
tree_of (gcons (gnum (suc zero)) (gcons start end)) = Label (record { start = number_at start; end = number_at end })
tree_of (gcons (gnum (suc (suc zero))) x) = Minus (tree_of x)
tree_of (gcons (gnum (suc (suc (suc zero)))) (gcons x y)) = Plus (tree_of x) (tree_of y)
tree_of (gcons (gnum (suc (suc (suc (suc zero))))) (gcons x y)) = Less (tree_of x) (tree_of y)
tree_of (gcons (gnum (suc (suc (suc (suc (suc zero)))))) (gcons x y)) = Times (tree_of x) (tree_of y)
tree_of _ = Here

tree_of-code_of : (x : Tree) → tree_of (code_of x) ≡ x
tree_of-code_of (Number number) = refl
tree_of-code_of (Label label) = refl
tree_of-code_of Here = refl
tree_of-code_of (Minus x) = ap (λ a. Minus a) (tree_of-code_of x)
tree_of-code_of (Plus x y) = ap (λ a. Plus a (tree_of (code_of y))) (tree_of-code_of x) ∙ ap (λ b. Plus x b) (tree_of-code_of y)
tree_of-code_of (Less x y) = ap (λ a. Less a (tree_of (code_of y))) (tree_of-code_of x) ∙ ap (λ b. Less x b) (tree_of-code_of y)
tree_of-code_of (Times x y) = ap (λ a. Times a (tree_of (code_of y))) (tree_of-code_of x) ∙ ap (λ b. Times x b) (tree_of-code_of y)

pub same_code : (x y : Tree) → code_of x ≡ code_of y → x ≡ y
same_code x y same = sym (tree_of-code_of x) ∙ ap tree_of same ∙ tree_of-code_of y

abbrev pub coded_tree : Coded Tree
coded_tree = record { code = code_of; inj = same_code }

abbrev pub coded_trees : Coded (List Tree)
coded_trees = coded_list coded_tree
