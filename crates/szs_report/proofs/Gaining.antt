-- What a sink gained in several puts.
use Rattle.std.proofs.Common.{◌≡◌, ℕ, ◌+◌, ◌≤◌, ◌<◌, List, ◌∷◌, ◌++◌, length, take, drop, get_or, Option, Some, None, refl, sym, ap, ◌∙◌, arith, append_assoc, length-append}
use Rattle.std.specs.List.{flat_map}
use Rattle.std.proofs.Math.Seq.{take-append-add}
use Rattle.std.proofs.lemmas.List.{take-append-le, take-append-drop, drop_more}
use Rattle.std.proofs.lemmas.Grind.{flat_map-append}
use Rattle.mg_outside.specs.Causes.{Rose, one_more}
use Rattle.mg_outside.specs.Putting.{SinkSeen, Gained, TookFront, AllPut, PutFailed, Puts}
use Rattle.mg_outside.specs.declared.sink.PutAnswer.{PutAnswer}
use Rattle.mg_outside.specs.declared.sink.PutAnswer.TheVariants.{Done, Failed}

-- what is gained in two puts is gained in one
pub Gained-append : (a b c : Option (List ℕ)) (xs ys : List ℕ) → Gained a b xs → Gained b c ys → Gained a c (xs ++ ys)
Gained-append None None None xs ys first second = tt
Gained-append None None (Some z) xs ys first second = second
Gained-append None (Some y) c xs ys first second = absurd first
Gained-append (Some x) None c xs ys first second = absurd first
Gained-append (Some x) (Some y) None xs ys first second = second
Gained-append (Some x) (Some y) (Some z) xs ys first second = second ∙ (ap (λ l. l ++ ys) first ∙ append_assoc x xs ys)

-- a whole put, and then the front of a piece, are the front of all that was to be put
pub TookFront-append : (a b c : Option (List ℕ)) (xs piece rest : List ℕ) → Gained a b xs → TookFront b c piece → TookFront a c (xs ++ (piece ++ rest))
TookFront-append a b c xs piece rest first second =
    let short : take second.count (piece ++ rest) ≡ take second.count piece = take-append-le second.count piece rest second.within in
    let front : take (length xs + second.count) (xs ++ (piece ++ rest)) ≡ xs ++ take second.count piece =
    take-append-add xs (piece ++ rest) second.count ∙ ap (λ l. xs ++ l) short in
    record {
      count = length xs + second.count;
      within = omega (arith, second.within, length-append xs (piece ++ rest), length-append piece rest);
      gained = rw front (Gained-append a b c xs (take second.count piece) first second.gained);
    }

-- whole puts make a whole put
pub AllPut-append : (a b c : SinkSeen) (xs ys : List ℕ) → AllPut a b xs → AllPut b c ys → AllPut a c (xs ++ ys)
AllPut-append a b c xs ys first second = record { gained = Gained-append a.held b.held c.held xs ys first.gained second.gained; uncounted = second.uncounted ∙ first.uncounted }

-- a put that fails behind a whole put
pub PutFailed-append : (a b c : SinkSeen) (xs piece rest : List ℕ) → AllPut a b xs → PutFailed b c piece → PutFailed a c (xs ++ (piece ++ rest))
PutFailed-append a b c xs piece rest first second = record {
  front = TookFront-append a.held b.held c.held xs piece rest first.gained second.front;
  counted = second.counted ∙ ap one_more first.uncounted;
}

-- the text of pieces before the piece at that place, its own, and that of the pieces behind it
pub flat_map-split : {X : Type 0} (text : X → List ℕ) (pieces : List X) (i : ℕ) (d : X) → i < length pieces
    → flat_map text pieces ≡ flat_map text (take i pieces) ++ (text (get_or pieces i d) ++ flat_map text (drop (i + 1) pieces))
flat_map-split text pieces i d inside =
    let parts : pieces ≡ take i pieces ++ (get_or pieces i d ∷ drop (i + 1) pieces) =
    sym (take-append-drop i pieces) ∙ ap (λ l. take i pieces ++ l) (drop_more pieces i d inside) in
    ap (flat_map text) parts ∙ flat_map-append text (take i pieces) (get_or pieces i d ∷ drop (i + 1) pieces)

-- a put that did not fail
pub done_put : (answer : PutAnswer) (a b : SinkSeen) (bytes : List ℕ) → (answer ≡ Failed → ⊥) → Puts answer a b bytes → AllPut a b bytes
done_put Done a b bytes fine put = put
done_put Failed a b bytes fine put = absurd (fine refl)

-- a count that rose from a later value rose from an earlier one
pub Rose-earlier : (a b c : ℕ) → a ≤ b → Rose b c → Rose a c
Rose-earlier a b c early rose = grind (arith)
