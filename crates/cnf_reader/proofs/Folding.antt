-- A name has one folder, which the scan finds.
use Rattle.std.proofs.Common.{◌≡◌, ℕ, zero, suc, ◌+◌, ◌<◌, Bool, true, false, true≢false, ◌==◌, ◌⊎◌, inl, inr, if◌then◌else◌, List, [], ◌∷◌, ◌++◌, length, take, get_or, Contains, refl, sym, ap, ◌∙◌, subst, arith, append_assoc, append-nil, length-append}
use Rattle.std.proofs.lemmas.Bool.Decides.{nat_tests}
use Rattle.std.proofs.lemmas.List.Elements.{Contains-append_left, Contains-append_right, Contains-append_cases}
use Rattle.cnf_grammar.proofs.Accepting.{equal_numbers}
use Rattle.cnf_reader.specs.Names.{slash, up_to_slash, folder_of}
use Rattle.cnf_reader.specs.Folders.{IsFolder}

not_same : (byte : ℕ) → (byte == slash) ≡ false → byte ≡ slash → ⊥
not_same byte test is = true≢false (sym itself ∙ test)
  where
    itself : (byte == slash) ≡ true
    itself = grind (arith, nat_tests, is)

only_one : (byte x : ℕ) → Contains (byte ∷ []) x → byte ≡ x
only_one byte x (zero, within, is) = is
only_one byte x (suc k, within, is) = absurd (omega arith)

here : (x : ℕ) (xs : List ℕ) → Contains (x ∷ xs) x
here x xs = (0, omega arith, refl)

-- so many of the bytes that were passed are the folder of these
record IsCut (passed : List ℕ) (count : ℕ) : Type 0 where
  folder : List ℕ
  is : IsFolder passed folder
  long : length folder ≡ count

one_more : (passed : List ℕ) (count byte : ℕ) (b : Bool) → (byte == slash) ≡ b → IsCut passed count → IsCut (passed ++ byte ∷ []) (if b then length passed + 1 else count)
one_more passed count byte true test cut = record {
  folder = passed ++ slash ∷ [];
  is = record {
    last = [];
    joined = ap (λ c. passed ++ c ∷ []) (equal_numbers byte slash test) ∙ sym (append-nil (passed ++ slash ∷ []));
    plain = λ there. nothing there;
    ended = inr (passed, refl);
  };
  long = length-append passed (slash ∷ []);
}
  where
    nothing : Contains [] slash → ⊥
    nothing (k, within, is) = omega arith
one_more passed count byte false test cut = record {
  folder = cut.folder;
  is = record {
    last = cut.is.last ++ byte ∷ [];
    joined = ap (λ u. u ++ byte ∷ []) cut.is.joined ∙ append_assoc cut.folder cut.is.last (byte ∷ []);
    plain = λ there. by (Contains-append_cases cut.is.last (byte ∷ []) slash there);
    ended = cut.is.ended;
  };
  long = cut.long;
}
  where
    by : Contains cut.is.last slash ⊎ Contains (byte ∷ []) slash → ⊥
    by (inl there) = cut.is.plain there
    by (inr there) = not_same byte test (only_one byte slash there)

all_cut : (bytes passed : List ℕ) (count : ℕ) → IsCut passed count → IsCut (passed ++ bytes) (up_to_slash (length passed) count bytes)
all_cut [] passed count cut = subst (λ u. IsCut u count) (sym (append-nil passed)) cut
all_cut (byte ∷ bytes) passed count cut =
    let next = one_more passed count byte (byte == slash) refl cut in
    let rest = all_cut bytes (passed ++ byte ∷ []) (if byte == slash then length passed + 1 else count) next in
    subst (λ u. IsCut u (up_to_slash (length passed + 1) (if byte == slash then length passed + 1 else count) bytes)) (append_assoc passed (byte ∷ []) bytes)
    (subst (λ n. IsCut ((passed ++ byte ∷ []) ++ bytes) (up_to_slash n (if byte == slash then length passed + 1 else count) bytes)) (length-append passed (byte ∷ [])) rest)

take_front : (front more : List ℕ) → take (length front) (front ++ more) ≡ front
take_front [] more = refl
take_front (x ∷ front) more = ap (λ u. x ∷ u) (take_front front more)

-- the folder that the scan finds is one
pub folder_is : (name : List ℕ) → IsFolder name (folder_of name)
folder_is name =
    let cut = all_cut name [] 0 (record { folder = []; is = record { last = []; joined = refl; plain = λ there. nothing there; ended = inl refl }; long = refl }) in
    subst (IsFolder name) (sym (ap (λ n. take n name) (sym cut.long) ∙ (ap (take (length cut.folder)) cut.is.joined ∙ take_front cut.folder cut.is.last))) cut.is
  where
    nothing : Contains [] slash → ⊥
    nothing (k, within, is) = omega arith

-- of two fronts of a list one is a front of the other
fronts : (a b c d : List ℕ) → a ++ b ≡ c ++ d → ((more : List ℕ) × (a ≡ c ++ more) × (d ≡ more ++ b)) ⊎ ((more : List ℕ) × (c ≡ a ++ more) × (b ≡ more ++ d))
fronts a b [] d e = inl (a, refl, sym e)
fronts [] b (x ∷ c) d e = inr (x ∷ c, refl, e)
fronts (y ∷ a) b (x ∷ c) d e = by (fronts a b c d cc)
  where
    first : y ≡ x
    first = cc

    by : ((more : List ℕ) × (a ≡ c ++ more) × (d ≡ more ++ b)) ⊎ ((more : List ℕ) × (c ≡ a ++ more) × (b ≡ more ++ d)) → ((more : List ℕ) × (y ∷ a ≡ x ∷ (c ++ more)) × (d ≡ more ++ b)) ⊎ ((more : List ℕ) × (x ∷ c ≡ y ∷ (a ++ more)) × (b ≡ more ++ d))
    by (inl h) = inl (h.0, ap (λ z. z ∷ a) first ∙ ap (λ u. x ∷ u) h.1, h.2)
    by (inr h) = inr (h.0, ap (λ z. z ∷ c) (sym first) ∙ ap (λ u. y ∷ u) h.1, h.2)

-- a longer folder would leave a slash behind the shorter one
no_longer : (a c more b : List ℕ) → a ≡ c ++ more → ((a ≡ []) ⊎ ((front : List ℕ) × (a ≡ front ++ slash ∷ []))) → (Contains (more ++ b) slash → ⊥) → more ≡ []
no_longer a c [] b is ended plain = refl
no_longer a c (x ∷ more) b is (inl none) plain = absurd (no_front c x more (sym none ∙ is))
  where
    no_front : (u : List ℕ) (y : ℕ) (v : List ℕ) → [] ≡ u ++ y ∷ v → ⊥
    no_front [] y v e = cc
    no_front (z ∷ u) y v e = cc
no_longer a c (x ∷ more) b is (inr some) plain = absurd (plain (Contains-append_left (x ∷ more) b slash (last_in c x more some.0 (sym is ∙ some.1))))
  where
    last_in : (u : List ℕ) (y : ℕ) (v w : List ℕ) → u ++ y ∷ v ≡ w ++ slash ∷ [] → Contains (y ∷ v) slash
    last_in u y v w e = by (fronts w (slash ∷ []) u (y ∷ v) (sym e))
      where
        by : ((k : List ℕ) × (w ≡ u ++ k) × (y ∷ v ≡ k ++ slash ∷ [])) ⊎ ((k : List ℕ) × (u ≡ w ++ k) × (slash ∷ [] ≡ k ++ y ∷ v)) → Contains (y ∷ v) slash
        by (inl h) = subst (λ l. Contains l slash) (sym h.2) (Contains-append_right h.0 (slash ∷ []) slash (here slash []))
        by (inr h) = only h.0 h.2
          where
            only : (k : List ℕ) → slash ∷ [] ≡ k ++ y ∷ v → Contains (y ∷ v) slash
            only [] e = subst (λ l. Contains l slash) e (here slash [])
            only (z ∷ []) e = cc
            only (z ∷ z' ∷ k) e = cc

-- a name has one folder
pub one_folder : (name a c : List ℕ) → IsFolder name a → IsFolder name c → a ≡ c
one_folder name a c first second = by (fronts a first.last c second.last (sym first.joined ∙ second.joined))
  where
    by : ((more : List ℕ) × (a ≡ c ++ more) × (second.last ≡ more ++ first.last)) ⊎ ((more : List ℕ) × (c ≡ a ++ more) × (first.last ≡ more ++ second.last)) → a ≡ c
    by (inl h) =
        let none = no_longer a c h.0 first.last h.1 first.ended (λ there. second.plain (subst (λ l. Contains l slash) (sym h.2) there)) in
        h.1 ∙ (ap (λ m. c ++ m) none ∙ append-nil c)
    by (inr h) =
        let none = no_longer c a h.0 second.last h.1 second.ended (λ there. first.plain (subst (λ l. Contains l slash) (sym h.2) there)) in
        sym (h.1 ∙ (ap (λ m. a ++ m) none ∙ append-nil a))
