-- The tree of an expression.
use Rattle.wb_syntax.specs.declared.exprs.Node.{Node}
use Rattle.wb_syntax.specs.declared.exprs.Node.TheVariants as node
use Rattle.wb_syntax.specs.Tree.{Tree, Number, Label, Here, Minus, Plus, Less, Times}

abbrev pub tree_of : Node → Tree
tree_of (node.Number number) = Number number
tree_of (node.Label label) = Label label
tree_of node.Here = Here
tree_of (node.Minus x) = Minus x.value
tree_of (node.Plus x y) = Plus x.value y.value
tree_of (node.Less x y) = Less x.value y.value
tree_of (node.Times x y) = Times x.value y.value
