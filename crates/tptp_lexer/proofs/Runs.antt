-- Runs of bytes of one class at the front of a text.
use Rattle.std.proofs.Common.{◌⊎◌, inl, inr, ◌<◌, zero, ◌≡◌, ℕ, suc, ◌+◌, ◌≤◌, Bool, true, false, cond, List, [], ◌∷◌, ◌++◌, length, take, drop, refl, arith}
use Rattle.std.specs.List.{prefix_len}
use Rattle.ascii_text.specs.Bytes.{begins}
use Rattle.tptp_lexer.specs.Forms.{Each}

module _ (test : ℕ → Bool) where
  pub each-run : (bytes : List ℕ) → Each test (take (prefix_len test bytes) bytes)
  each-run [] = tt
  each-run (b ∷ bs) = by (test b) refl (each-run bs)
    where
      by : (t : Bool) → test b ≡ t → Each test (take (prefix_len test bs) bs) → Each test (take (cond t (1 + prefix_len test bs) 0) (b ∷ bs))
      by true e rest = let next : 1 + prefix_len test bs ≡ suc (prefix_len test bs) = omega arith in rw next (e, rest)
      by false e rest = tt

  pub run-ends : (bytes : List ℕ) → begins test (drop (prefix_len test bytes) bytes) ≡ false
  run-ends [] = refl
  run-ends (b ∷ bs) = by (test b) refl (run-ends bs)
    where
      by : (t : Bool) → test b ≡ t → begins test (drop (prefix_len test bs) bs) ≡ false → begins test (drop (cond t (1 + prefix_len test bs) 0) (b ∷ bs)) ≡ false
      by true e rest = let next : 1 + prefix_len test bs ≡ suc (prefix_len test bs) = omega arith in rw next rest
      by false e rest = e

  pub run-least : (run more : List ℕ) → Each test run → length run ≤ prefix_len test (run ++ more)
  run-least [] more each = omega arith
  run-least (b ∷ bs) more each = rw each.0 (omega (arith, run-least bs more each.1))

  pub run-exact : (run more : List ℕ) → Each test run → begins test more ≡ false → prefix_len test (run ++ more) ≡ length run
  run-exact [] [] each ends = refl
  run-exact [] (b ∷ more) each ends = rw ends refl
  run-exact (b ∷ bs) more each ends = rw (each.0, run-exact bs more each.1 ends) (omega arith)

-- a length is 0, or it is not
pub none_or_some : (n : ℕ) → (n ≡ 0) ⊎ (0 < n)
none_or_some zero = inl refl
none_or_some (suc n) = inr (omega arith)
