-- What fits still fits up to any access, and with or without status reads.
use Rattle.std.proofs.Common.{◌≡◌, ◌+◌, ◌≤◌, List, [], ◌∷◌, ◌++◌, length, length-append, refl, sym, ap, subst, ◌∙◌, arith}
use Rattle.std.specs.List.{AllByRecursion}
use Rattle.std.proofs.lemmas.List.Elements.{recursion_from_All, All-from_recursion}
use Rattle.wb_port.specs.declared.accesses.Access.{Access}
use Rattle.wb_port.specs.declared.accesses.Access.TheVariants as access
use Rattle.wb_port.specs.declared.accesses.Kind.{Kind}
use Rattle.wb_port.specs.declared.accesses.Letter.{Letter}
use Rattle.wb_port.specs.Talk.{IsByteAccess, kinds, IsTransfer, transfers_of, OnlyLastMayBeStatus}
use Rattle.wb_port.specs.Dialogue.{AllowsEach}
use Rattle.wb_law.specs.FitLaws.{FrontsFit, StatusReadsAlwaysFit, StatusReadsHaveNoKind, TransfersAreLeft, TransfersJoinInOrder, LastsMayBeStatus}

pub kinds_join : (xs ys : List Access) → kinds (xs ++ ys) ≡ kinds xs ++ kinds ys
kinds_join [] ys = refl
kinds_join (access.Status ∷ xs) ys = kinds_join xs ys
kinds_join (access.Read ∷ xs) ys = let e = kinds_join xs ys in cc
kinds_join (access.Write b ∷ xs) ys = let e = kinds_join xs ys in cc

transfers_join : (xs ys : List Access) → transfers_of (xs ++ ys) ≡ transfers_of xs ++ transfers_of ys
transfers_join [] ys = refl
transfers_join (access.Status ∷ xs) ys = transfers_join xs ys
transfers_join (access.Read ∷ xs) ys = let e = transfers_join xs ys in cc
transfers_join (access.Write b ∷ xs) ys = let e = transfers_join xs ys in cc

pub join_in_order : TransfersJoinInOrder
join_in_order front rest = record { kinds_join = kinds_join front rest; transfers_join = transfers_join front rest }

pub no_kind : StatusReadsHaveNoKind
no_kind [] = refl
no_kind (access.Status ∷ xs) = no_kind xs
no_kind (access.Read ∷ xs) = let e = no_kind xs in cc
no_kind (access.Write b ∷ xs) = let e = no_kind xs in cc

allows_front : (shape : List Letter) (xs ys : List Kind) → AllowsEach shape (xs ++ ys) → AllowsEach shape xs
allows_front shape [] ys h = tt
allows_front [] (x ∷ xs) ys h = h
allows_front (l ∷ shape) (x ∷ xs) ys h = (h.0, allows_front shape xs ys h.1)

bytes_front : (xs ys : List Access) → AllByRecursion IsByteAccess (xs ++ ys) → AllByRecursion IsByteAccess xs
bytes_front [] ys h = tt
bytes_front (x ∷ xs) ys h = (h.0, bytes_front xs ys h.1)

pub fronts_fit : FrontsFit
fronts_fit n shape power start front rest f =
    let e = kinds_join front rest in
    let a : length (kinds (front ++ rest)) ≡ length (kinds front) + length (kinds rest) = ap length e ∙ length-append (kinds front) (kinds rest) in
    let s = f.short in
    record {
      short = omega arith;
      shaped = allows_front shape (kinds front) (kinds rest) (subst (AllowsEach shape) e f.shaped);
      powered = f.powered;
      start_in = f.start_in;
      bytes_in = All-from_recursion IsByteAccess front (bytes_front front rest (recursion_from_All IsByteAccess (front ++ rest) f.bytes_in));
    }

bytes_left : (xs : List Access) → AllByRecursion IsByteAccess xs → AllByRecursion IsByteAccess (transfers_of xs)
bytes_left [] h = tt
bytes_left (access.Status ∷ xs) h = bytes_left xs h.1
bytes_left (access.Read ∷ xs) h = (tt, bytes_left xs h.1)
bytes_left (access.Write b ∷ xs) h = (h.0, bytes_left xs h.1)

bytes_back : (xs : List Access) → AllByRecursion IsByteAccess (transfers_of xs) → AllByRecursion IsByteAccess xs
bytes_back [] h = tt
bytes_back (access.Status ∷ xs) h = (tt, bytes_back xs h)
bytes_back (access.Read ∷ xs) h = (tt, bytes_back xs h.1)
bytes_back (access.Write b ∷ xs) h = (h.0, bytes_back xs h.1)

pub status_reads_fit : StatusReadsAlwaysFit
status_reads_fit n shape power start accesses = (
  λ f. record {
    short = subst (λ (ks : List Kind). length ks ≤ n) (sym (no_kind accesses)) f.short;
    shaped = subst (AllowsEach shape) (sym (no_kind accesses)) f.shaped;
    powered = f.powered;
    start_in = f.start_in;
    bytes_in = All-from_recursion IsByteAccess (transfers_of accesses) (bytes_left accesses (recursion_from_All IsByteAccess accesses f.bytes_in));
  },
  λ f. record {
    short = subst (λ (ks : List Kind). length ks ≤ n) (no_kind accesses) f.short;
    shaped = subst (AllowsEach shape) (no_kind accesses) f.shaped;
    powered = f.powered;
    start_in = f.start_in;
    bytes_in = All-from_recursion IsByteAccess accesses (bytes_back accesses (recursion_from_All IsByteAccess (transfers_of accesses) f.bytes_in));
  },
)

all_left : (xs : List Access) → AllByRecursion IsTransfer (transfers_of xs)
all_left [] = tt
all_left (access.Status ∷ xs) = all_left xs
all_left (access.Read ∷ xs) = (tt, all_left xs)
all_left (access.Write b ∷ xs) = (tt, all_left xs)

all_stay : (xs : List Access) → AllByRecursion IsTransfer xs → transfers_of xs ≡ xs
all_stay [] h = refl
all_stay (access.Status ∷ xs) h = absurd h.0
all_stay (access.Read ∷ xs) h = ap (λ (ys : List Access). access.Read ∷ ys) (all_stay xs h.1)
all_stay (access.Write b ∷ xs) h = ap (λ (ys : List Access). access.Write b ∷ ys) (all_stay xs h.1)

pub are_left : TransfersAreLeft
are_left accesses = record {
  left = All-from_recursion IsTransfer (transfers_of accesses) (all_left accesses);
  same = λ h. all_stay accesses (recursion_from_All IsTransfer accesses h);
}

only_last : (xs : List Access) (x : Access) → AllByRecursion IsTransfer xs → OnlyLastMayBeStatus (xs ++ x ∷ [])
only_last [] x h = tt
only_last (a ∷ []) x h = (h.0, tt)
only_last (a ∷ b ∷ xs) x h = (h.0, only_last (b ∷ xs) x h.1)

all_before : (xs : List Access) (x : Access) → OnlyLastMayBeStatus (xs ++ x ∷ []) → AllByRecursion IsTransfer xs
all_before [] x h = tt
all_before (a ∷ []) x h = (h.0, tt)
all_before (a ∷ b ∷ xs) x h = (h.0, all_before (b ∷ xs) x h.1)

pub lasts_may_be_status : LastsMayBeStatus
lasts_may_be_status front last = (
  λ h. All-from_recursion IsTransfer front (all_before front last h),
  λ h. only_last front last (recursion_from_All IsTransfer front h),
)
