-- Variables by first occurrence: adding them one by one, and taking each once.
use Rattle.cnf_grammar.proofs.Common.{◌≡◌, ℕ, suc, Bool, true, false, cond, not, ◌||◌, List, [], ◌∷◌, ◌++◌, filter, refl, sym, ◌∙◌, ap, subst, append_assoc, append-nil, bytes_eq, bytes_eq-Decides, each_once, index_of, has_text, with_variable}

-- the variables with these, in order
abbrev pub with_variables : List (List ℕ) → List (List ℕ) → List (List ℕ)
with_variables variables [] = variables
with_variables variables (text ∷ texts) = with_variables (with_variable variables text) texts

pub with_variables-append : (v xs ys : List (List ℕ)) → with_variables v (xs ++ ys) ≡ with_variables (with_variables v xs) ys
with_variables-append v [] ys = refl
with_variables-append v (x ∷ xs) ys = with_variables-append (with_variable v x) xs ys

-- a longer list of variables
abbrev pub Extends : List (List ℕ) → List (List ℕ) → Type 0
Extends long short = (more : List (List ℕ)) × (long ≡ short ++ more)

extends_two : (b : Bool) (v : List (List ℕ)) (x : List ℕ) → Extends (cond b v (v ++ x ∷ [])) v
extends_two true v x = ([], sym (append-nil v))
extends_two false v x = (x ∷ [], refl)

pub extends_with : (long v xs : List (List ℕ)) → Extends long (with_variables v xs) → Extends long v
extends_with long v [] h = h
extends_with long v (x ∷ xs) h =
    let k = extends_with long (with_variable v x) xs h in
    let e = extends_two (has_text v x) v x in
    (e.0 ++ k.0, k.1 ∙ (ap (λ u. u ++ k.0) e.1 ∙ append_assoc v e.0 k.0))

-- a variable that is there keeps its number
index_by : (b : Bool) (m n : ℕ) (t : Bool) → (t ≡ true → m ≡ n) → cond b true t ≡ true → cond b 0 (suc m) ≡ cond b 0 (suc n)
index_by true m n t same h = refl
index_by false m n t same h = ap suc (same h)

index_kept : (v more : List (List ℕ)) (x : List ℕ) → has_text v x ≡ true → index_of (v ++ more) x ≡ index_of v x
index_kept [] more x h = cc
index_kept (y ∷ v) more x h = index_by (bytes_eq y x) (index_of (v ++ more) x) (index_of v x) (has_text v x) (index_kept v more x) h

-- the last variable is there
last_by : (b t : Bool) → t ≡ true → cond b true t ≡ true
last_by true t h = refl
last_by false t h = h

has_last : (v : List (List ℕ)) (x : List ℕ) → has_text (v ++ x ∷ []) x ≡ true
has_last [] x = last_here (bytes_eq x x) ((bytes_eq-Decides x x).1 refl)
  where
    last_here : (b : Bool) → b ≡ true → cond b true false ≡ true
    last_here true h = refl
    last_here false h = cc
has_last (y ∷ v) x = last_by (bytes_eq y x) (has_text (v ++ x ∷ []) x) (has_last v x)

there_by : (b : Bool) (v : List (List ℕ)) (x : List ℕ) → has_text v x ≡ b → has_text (cond b v (v ++ x ∷ [])) x ≡ true
there_by true v x h = h
there_by false v x h = has_last v x

pub with_variable_has : (v : List (List ℕ)) (x : List ℕ) → has_text (with_variable v x) x ≡ true
with_variable_has v x = there_by (has_text v x) v x refl

-- the number of a variable is its number among all
pub index_final : (final v : List (List ℕ)) (x : List ℕ) → Extends final (with_variable v x) → index_of (with_variable v x) x ≡ index_of final x
index_final final v x h = sym (ap (λ u. index_of u x) h.1 ∙ index_kept (with_variable v x) h.0 x (with_variable_has v x))

-- those that are not there
abbrev unseen : List (List ℕ) → List (List ℕ) → List (List ℕ)
unseen v xs = filter (λ x. not (has_text v x)) xs

abbrev pub others : List ℕ → List (List ℕ) → List (List ℕ)
others t xs = filter (λ x. not (bytes_eq t x)) xs

-- where t is there, t need not be left out
seen_by : (v : List (List ℕ)) (t e : List ℕ) (E : List (List ℕ)) → has_text v t ≡ true → (b : Bool) → bytes_eq t e ≡ b → unseen v (others t E) ≡ unseen v E → unseen v (cond (not b) (e ∷ others t E) (others t E)) ≡ unseen v (e ∷ E)
seen_by v t e E h true k same =
    let there : has_text v e ≡ true = subst (λ x. has_text v x ≡ true) ((bytes_eq-Decides t e).0 k) h in
    same ∙ sym (ap (λ c. cond (not c) (e ∷ unseen v E) (unseen v E)) there)
seen_by v t e E h false k same = ap (λ u. cond (not (has_text v e)) (e ∷ u) u) same

seen_others : (v : List (List ℕ)) (t : List ℕ) → has_text v t ≡ true → (E : List (List ℕ)) → unseen v (others t E) ≡ unseen v E
seen_others v t h [] = refl
seen_others v t h (e ∷ E) = seen_by v t e E h (bytes_eq t e) refl (seen_others v t h E)

-- where t was added, t is left out
has_append : (v : List (List ℕ)) (t e : List ℕ) (b : Bool) → bytes_eq t e ≡ b → has_text (v ++ t ∷ []) e ≡ (has_text v e || b)
has_append [] t e b k = ap (λ c. cond c true false) k ∙ alone b
  where
    alone : (c : Bool) → cond c true false ≡ (false || c)
    alone true = refl
    alone false = refl
has_append (y ∷ v) t e b k = ap (λ u. cond (bytes_eq y e) true u) (has_append v t e b k) ∙ grouped (bytes_eq y e) (has_text v e)
  where
    grouped : (c d : Bool) → cond c true (d || b) ≡ (cond c true d || b)
    grouped true d = refl
    grouped false d = refl

or_true : (c : Bool) → (c || true) ≡ true
or_true true = refl
or_true false = refl

or_false : (c : Bool) → (c || false) ≡ c
or_false true = refl
or_false false = refl

added_by : (v : List (List ℕ)) (t e : List ℕ) (E : List (List ℕ)) (b : Bool) → bytes_eq t e ≡ b → unseen (v ++ t ∷ []) E ≡ unseen v (others t E) → unseen (v ++ t ∷ []) (e ∷ E) ≡ unseen v (cond (not b) (e ∷ others t E) (others t E))
added_by v t e E true k same =
    let there : has_text (v ++ t ∷ []) e ≡ true = has_append v t e true k ∙ or_true (has_text v e) in
    ap (λ c. cond (not c) (e ∷ unseen (v ++ t ∷ []) E) (unseen (v ++ t ∷ []) E)) there ∙ same
added_by v t e E false k same =
    let there : has_text (v ++ t ∷ []) e ≡ has_text v e = has_append v t e false k ∙ or_false (has_text v e) in
    ap (λ c. cond (not c) (e ∷ unseen (v ++ t ∷ []) E) (unseen (v ++ t ∷ []) E)) there ∙ ap (λ u. cond (not (has_text v e)) (e ∷ u) u) same

added_others : (v : List (List ℕ)) (t : List ℕ) (E : List (List ℕ)) → unseen (v ++ t ∷ []) E ≡ unseen v (others t E)
added_others v t [] = refl
added_others v t (e ∷ E) = added_by v t e E (bytes_eq t e) refl (added_others v t E)

-- adding variables one by one adds each once that was not there
once_by : (v : List (List ℕ)) (t : List ℕ) (E : List (List ℕ)) (b : Bool) → has_text v t ≡ b → cond b v (v ++ t ∷ []) ++ unseen (cond b v (v ++ t ∷ [])) E ≡ v ++ unseen v (t ∷ others t E)
once_by v t E true h =
    ap (λ u. v ++ u) (sym (seen_others v t h E) ∙ sym (ap (λ c. cond (not c) (t ∷ unseen v (others t E)) (unseen v (others t E))) h))
once_by v t E false h =
    append_assoc v (t ∷ []) (unseen (v ++ t ∷ []) E)
    ∙ ap (λ u. v ++ u) (ap (λ u. t ∷ u) (added_others v t E) ∙ sym (ap (λ c. cond (not c) (t ∷ unseen v (others t E)) (unseen v (others t E))) h))

each_added : (v texts : List (List ℕ)) → with_variables v texts ≡ v ++ unseen v (each_once texts)
each_added v [] = sym (append-nil v)
each_added v (t ∷ texts) = each_added (with_variable v t) texts ∙ once_by v t (each_once texts) (has_text v t) refl

all_unseen : (xs : List (List ℕ)) → unseen [] xs ≡ xs
all_unseen [] = refl
all_unseen (x ∷ xs) = ap (λ u. x ∷ u) (all_unseen xs)

pub once_is : (texts : List (List ℕ)) → with_variables [] texts ≡ each_once texts
once_is texts = each_added [] texts ∙ all_unseen (each_once texts)
