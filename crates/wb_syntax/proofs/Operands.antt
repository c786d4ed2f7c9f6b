-- What follows a mnemonic is read in one way.
use Rattle.std.proofs.Common.{◌≡◌, ℕ, ◌≤◌, get_or, drop, Some, Result, Ok, Err, List, [], ◌∷◌, ◌++◌, length, sym, refl, ap, ◌∙◌, subst, arith, append_assoc, append-nil, map}
use Rattle.std.specs.Option.{unwrap_or}
use Rattle.wb_lex.specs.declared.tokens.Token.{Token}
use Rattle.wb_syntax.specs.declared.refusals.Refusal.{Refusal}
use Rattle.wb_syntax.specs.declared.refusals.Refusal.TheVariants.{Syntax, OutOfMemory}
use Rattle.wb_syntax.specs.declared.separators.Separator.TheVariants.{Comma}
use Rattle.wb_syntax.specs.Tree.{Tree}
use Rattle.wb_syntax.specs.Expression.{IsExpression}
use Rattle.wb_syntax.specs.Reading.{IsReading, IsRefusal}
use Rattle.wb_syntax.specs.Separators.{parts}
use Rattle.wb_word.specs.Conditions.{cond_list}
use Rattle.wb_word.specs.declared.conditions.Cond.TheVariants as cond
use Rattle.wb_syntax.specs.declared.mnemonics.Mnemonic.{Mnemonic}
use Rattle.wb_syntax.specs.declared.mnemonics.Mnemonic.TheVariants as mnemonic
use Rattle.wb_syntax.specs.declared.statements.Body.{Body}
use Rattle.wb_syntax.specs.Mnemonic.{mnemonic_name}
use Rattle.wb_syntax.specs.Spelling.{Says, spelling}
use Rattle.wb_syntax.specs.Statement.{AreExpressions, IsOperands, IsInstruction, IsBody}
use Rattle.wb_syntax.proofs.Chains.{one_tree}
use Rattle.wb_syntax.proofs.OneClause.{named}

-- a refusal of a part is one of the whole
pub refused_by : {A B : Type 0} (P : A → Type 0) (Q : B → Type 0) (r : Refusal) → IsRefusal P r → ((b : B) → Q b → (a : A) × P a) → IsRefusal Q r
refused_by P Q OutOfMemory refused needs = tt
refused_by P Q Syntax refused needs = λ b is. let part = needs b is in refused part.0 part.1

-- these expressions and those of the parts that are left are those of all tokens
pub record ListsOn (text : List ℕ) (tokens : List Token) (left : List (List Token)) (trees : List Tree) : Type 0 where
  pub sound : (more : List Tree) → AreExpressions text left more → AreExpressions text (parts Comma tokens) (trees ++ more)
  pub whole : (all : List Tree) → AreExpressions text (parts Comma tokens) all → (more : List Tree) × (all ≡ trees ++ more) × AreExpressions text left more

pub lists_begin : (text : List ℕ) (tokens : List Token) (trees : List Tree) → trees ≡ [] → ListsOn text tokens (parts Comma tokens) trees
lists_begin text tokens trees none = record {
  sound = λ more are. rw none are;
  whole = λ all are. (all, rw none refl, are);
}

module _ (text : List ℕ) (tokens part : List Token) (left : List (List Token)) (trees : List Tree) (on : ListsOn text tokens (part ∷ left) trees) where
  pub lists_next : (tree : Tree) (grown : List Tree) → IsExpression text part tree → grown ≡ trees ++ tree ∷ [] → ListsOn text tokens left grown
  lists_next tree grown is same = record {
    sound = λ more are. subst (λ ts. AreExpressions text (parts Comma tokens) ts) (sym (ap (λ ts. ts ++ more) same ∙ append_assoc trees (tree ∷ []) more)) (on.sound (tree ∷ more) (is, are));
    whole = λ all are. let rest = on.whole all are in by all rest.0 rest.1 rest.2;
  }
    where
      by : (all more : List Tree) → all ≡ trees ++ more → AreExpressions text (part ∷ left) more → (others : List Tree) × (all ≡ grown ++ others) × AreExpressions text left others
      by all [] e are = absurd are
      by all (x ∷ more) e are =
          let one : x ≡ tree = one_tree text part x tree are.0 is in
          (more, e ∙ ap (λ t. trees ++ t ∷ more) one ∙ sym (ap (λ ts. ts ++ more) same ∙ append_assoc trees (tree ∷ []) more), are.1)

  pub lists_stop : (r : Refusal) → IsRefusal (IsExpression text part) r → IsRefusal (AreExpressions text (parts Comma tokens)) r
  lists_stop r refused = refused_by (IsExpression text part) (AreExpressions text (parts Comma tokens)) r refused (λ all are. let rest = on.whole all are in by rest.0 rest.2)
    where
      by : (more : List Tree) → AreExpressions text (part ∷ left) more → (tree : Tree) × IsExpression text part tree
      by [] are = absurd are
      by (x ∷ more) are = (x, are.0)

pub lists_end : (text : List ℕ) (tokens : List Token) (trees : List Tree) → ListsOn text tokens [] trees → AreExpressions text (parts Comma tokens) trees
lists_end text tokens trees on = subst (λ ts. AreExpressions text (parts Comma tokens) ts) (append-nil trees) (on.sound [] tt)

-- ---- a name is that of one mnemonic

name_or_none : Mnemonic → List ℕ
name_or_none m = unwrap_or (mnemonic_name m) []

all_mnemonics : List Mnemonic
all_mnemonics =
    mnemonic.Nop ∷ mnemonic.Op ∷ mnemonic.Rt ∷ mnemonic.Ld ∷ mnemonic.Org ∷ mnemonic.Dorg ∷ mnemonic.Equ ∷ mnemonic.Word ∷ mnemonic.Dw
    ∷ map (λ c. mnemonic.Jump c) cond_list

found : (m : Mnemonic) (name : List ℕ) → mnemonic_name m ≡ Some name → named name_or_none all_mnemonics (name_or_none m) ≡ Some m
unfolding name_or_none all_mnemonics
found (mnemonic.Jump (cond.Other other)) name e = cc
found (mnemonic.Jump _) name e = refl
found _ name e = refl

pub one_mnemonic : (a b : Mnemonic) (name : List ℕ) → mnemonic_name a ≡ Some name → mnemonic_name b ≡ Some name → a ≡ b
unfolding name_or_none all_mnemonics
one_mnemonic a b name e f =
    let first = found a name e in
    let second = found b name f in
    let same : named name_or_none all_mnemonics (name_or_none a) ≡ named name_or_none all_mnemonics (name_or_none b) =
    ap (λ o. named name_or_none all_mnemonics (unwrap_or o [])) (e ∙ sym f) in
    cc

pub same_head : (a b : Token) (xs ys : List Token) → a ∷ xs ≡ b ∷ ys → (a ≡ b) × (xs ≡ ys)
same_head a b xs ys e = (cc, cc)

pub operands_of : (text : List ℕ) (head : Token) (rest : List Token) (name : List ℕ) (m : Mnemonic) → Says text head name → mnemonic_name m ≡ Some name → (body : Body)
    → IsInstruction text (head ∷ rest) body → IsOperands text m rest body
operands_of text head rest name m said named_so body is =
    let same = same_head head is.head rest is.rest is.split in
    let told = is.said in
    let names : is.name ≡ name = sym told.same ∙ ap (λ t. spelling text t) (sym same.0) ∙ said.same in
    let one : is.mnemonic ≡ m = one_mnemonic is.mnemonic m name (is.is_named ∙ ap (λ n. Some n) names) named_so in
    subst (λ k. IsOperands text k rest body) one (subst (λ ts. IsOperands text is.mnemonic ts body) (sym same.1) is.operands)

-- a line of a mnemonic and its operands
pub body_is : (text : List ℕ) (head : Token) (rest : List Token) (name : List ℕ) (m : Mnemonic) (r : Result Body Refusal) → Says text head name → mnemonic_name m ≡ Some name
    → IsReading (IsOperands text m rest) r → IsReading (IsBody text (head ∷ rest)) r
body_is text head rest name m (Ok body) said named_so is = record { head = head; rest = rest; split = refl; mnemonic = m; name = name; is_named = named_so; said = said; operands = is }
body_is text head rest name m (Err refusal) said named_so refused =
    refused_by (IsOperands text m rest) (IsBody text (head ∷ rest)) refusal refused (λ body is. (body, operands_of text head rest name m said named_so body is))

-- the same of tokens that have a first one
pub body_at : (text : List ℕ) (tokens : List Token) (d : Token) (name : List ℕ) (m : Mnemonic) (r : Result Body Refusal) → 1 ≤ length tokens → Says text (get_or tokens 0 d) name → mnemonic_name m ≡ Some name
    → IsReading (IsOperands text m (drop 1 tokens)) r → IsReading (IsBody text tokens) r
body_at text [] d name m r some said named_so is = absurd (omega arith)
body_at text (head ∷ rest) d name m r some said named_so is = body_is text head rest name m r said named_so is
