-- Laws of prefixes of a list.
use Rattle.std.proofs.Common.{◌≤◌, Bool, List, [], ◌∷◌, ◌++◌, length, map, filter, refl, sym, ap, ◌∙◌, append_assoc, append-nil, arith, length-append}
use Rattle.std.specs.List.{flat_map}
use Rattle.std.proofs.lemmas.Grind.{flat_map-append}
use Rattle.std.proofs.lemmas.List.{map-append}
use Rattle.std.proofs.lemmas.List.Elements.{filter-append}
use Rattle.model.specs.Call.{IsPrefix}

pub IsPrefix-itself : {X : Type 0} (xs : List X) → IsPrefix xs xs
IsPrefix-itself xs = record { rest = []; joined = append-nil xs }

pub IsPrefix-none : {X : Type 0} (xs : List X) → IsPrefix [] xs
IsPrefix-none xs = record { rest = xs; joined = refl }

pub IsPrefix-of_append : {X : Type 0} (xs ys : List X) → IsPrefix xs (xs ++ ys)
IsPrefix-of_append xs ys = record { rest = ys; joined = refl }

pub IsPrefix-trans : {X : Type 0} {xs ys zs : List X} → IsPrefix xs ys → IsPrefix ys zs → IsPrefix xs zs
IsPrefix-trans {xs = xs} a b = record { rest = a.rest ++ b.rest; joined = sym (append_assoc xs a.rest b.rest) ∙ ap (λ prefix. prefix ++ b.rest) a.joined ∙ b.joined }

pub IsPrefix-cons : {X : Type 0} {xs ys : List X} (x : X) → IsPrefix xs ys → IsPrefix (x ∷ xs) (x ∷ ys)
IsPrefix-cons x a = record { rest = a.rest; joined = ap (λ whole. x ∷ whole) a.joined }

pub IsPrefix-map : {X Y : Type 0} {xs ys : List X} (f : X → Y) → IsPrefix xs ys → IsPrefix (map f xs) (map f ys)
IsPrefix-map {xs = xs} f a = record { rest = map f a.rest; joined = sym (map-append f xs a.rest) ∙ ap (map f) a.joined }

pub IsPrefix-filter : {X : Type 0} {xs ys : List X} (p : X → Bool) → IsPrefix xs ys → IsPrefix (filter p xs) (filter p ys)
IsPrefix-filter {xs = xs} p a = record { rest = filter p a.rest; joined = sym (filter-append p xs a.rest) ∙ ap (filter p) a.joined }

pub IsPrefix-flat_map : {X Y : Type 0} {xs ys : List X} (f : X → List Y) → IsPrefix xs ys → IsPrefix (flat_map f xs) (flat_map f ys)
IsPrefix-flat_map {xs = xs} f a = record { rest = flat_map f a.rest; joined = sym (flat_map-append f xs a.rest) ∙ ap (flat_map f) a.joined }

pub IsPrefix-length : {X : Type 0} {xs ys : List X} → IsPrefix xs ys → length xs ≤ length ys
IsPrefix-length {xs = xs} a = omega (arith, length-append xs a.rest, ap length a.joined)
