-- A statement whose tokens were taken to its dot holds what it means.
use Rattle.std.proofs.Common.{◌≡◌, ℕ, Bool, true, false, inr, List, [], ◌∷◌, ◌++◌, map, Option, Some, None, refl, sym, ◌∙◌, ap, subst}
use Rattle.mg_word.specs.declared.clause.Name.{Name}
use Rattle.cnf_grammar.specs.declared.brackets.Bracket.{Bracket}
use Rattle.cnf_grammar.specs.declared.state.State.{State}
use Rattle.cnf_grammar.specs.declared.state.State.TheVariants.{Statement, ClauseClosed, IncludeClosed}
use Rattle.cnf_grammar.specs.declared.position.Position.{Position}
use Rattle.cnf_grammar.specs.Shapes.{Shape, dot, is_mark}
use Rattle.cnf_grammar.specs.Trees as trees
use Rattle.cnf_grammar.specs.Spelling.{spell, IsFile}
use Rattle.cnf_grammar.specs.Table.{when, to, step_at, run_from, start, is_end_state, is_end}
use Rattle.cnf_grammar.specs.Laws.{LeadsToEnd}
use Rattle.cnf_grammar.specs.Meaning.{ReadStatement, read_clause, read_include, meaning}
use Rattle.cnf_grammar.specs.Gathering.{Gathered, gathered, gather_at, gather, gather_from}
use Rattle.cnf_reader.specs.declared.pending.Pending.{Pending}
use Rattle.cnf_reader.specs.Statements.{fresh, breaks_item, is_outside_items, add_at}
use Rattle.cnf_reader.specs.Meanings.{Written, shapes_of, ends_statement, TakesStatement, Holds, HoldsItsMeaning}
use Rattle.cnf_reader.proofs.Taking.{Took, was_taken}
use Rattle.cnf_reader.proofs.InItems.{conclusions}
use Rattle.cnf_reader.proofs.Following.{is_selection_start, names_early, Follows}
use Rattle.cnf_reader.proofs.Stepping.{follows}

-- the place where it stands does not matter
pub placed : (before : List ReadStatement) (state : State) (brackets : List Bracket) (p : Pending) (g : Gathered) (next : Position) → Follows before state brackets p g → Follows before state brackets (record p { position = next }) g
placed before state brackets p g next h = record { statements = h.statements; name = h.name; draft = h.draft; file = h.file; names = h.names; conclude = h.conclude; item = h.item }

-- nothing of a statement was read, and nothing gathered
pub fresh_follows : (before : List ReadStatement) → Follows before Statement [] fresh (gathered before)
fresh_follows before = record {
  statements = refl;
  name = refl;
  draft = refl;
  file = refl;
  names = names_early Statement None None refl refl refl;
  conclude = refl;
  item = inr (refl, refl, refl);
}

-- the dot leads to the start
dot_starts : (test : Bool) (next : Position) → when test start ≡ Some next → next ≡ start
dot_starts true next e = cc
dot_starts false next e = absurd cc

module _ (is_full : Bool) (selections : List (Option (List Name))) where
  -- what the grammar makes of the tokens from here on
  record Reads (before : List ReadStatement) (p : Pending) (g : Gathered) (shapes : List Shape) (state : State) (whole : Pending) : Type 0 where
    says : ReadStatement
    gathers : gather_from (Some p.position) g shapes ≡ gathered (before ++ says ∷ [])
    leads : run_from (Some p.position) shapes ≡ Some whole.position
    starts : whole.position ≡ start
    holds : Holds state whole says

  -- the dot
  at_dot : (before : List ReadStatement) (state : State) (p : Pending) (g : Gathered) (s : Shape) (line column : ℕ) (whole : Pending) → state ≡ p.position.state → ends_statement state ≡ true
      → Follows before p.position.state p.position.brackets p g → Took is_full selections p s line column whole → Reads before p g (s ∷ []) state whole
  at_dot before ClauseClosed p g s line column whole is over h k =
      let there = ap (λ q. q.position) k.is in
      record {
        says = read_clause (record { name = g.name; role = g.role; literals = g.formula.literals; variables = g.formula.variables; conclude = conclusions g.items });
        gathers = ap (λ o. gather_from o (gather p.position s g) []) k.leads ∙ (ap (λ m. gather_at m p.position s g) (sym is)
            ∙ ap (λ u. gathered (u ++ read_clause (record { name = g.name; role = g.role; literals = g.formula.literals; variables = g.formula.variables; conclude = conclusions g.items }) ∷ [])) h.statements);
        leads = ap (λ o. run_from o []) k.leads ∙ ap Some there;
        starts = sym there ∙ dot_starts (is_mark dot s) k.next (ap (λ m. step_at m p.position s) is ∙ k.leads);
        holds = subst (λ q. Holds ClauseClosed q (read_clause (record { name = g.name; role = g.role; literals = g.formula.literals; variables = g.formula.variables; conclude = conclusions g.items })))
            (ap (λ m. record (add_at m p.position.depth (is_outside_items p.position s) p s line column) { position = k.next }) is ∙ k.is)
            (record { name = g.name; role = g.role; literals = g.formula.literals; variables = g.formula.variables; conclude = conclusions g.items }, refl, record { name = h.name; literals = ap (λ d. d.literals) h.draft; variables = ap (λ d. d.variables) h.draft; conclude = h.conclude });
      }
  at_dot before IncludeClosed p g s line column whole is over h k =
      let there = ap (λ q. q.position) k.is in
      let names = h.names.same (sym (ap is_selection_start is)) in
      record {
        says = read_include g.file g.names;
        gathers = ap (λ o. gather_from o (gather p.position s g) []) k.leads ∙ (ap (λ m. gather_at m p.position s g) (sym is) ∙ ap (λ u. gathered (u ++ read_include g.file g.names ∷ [])) h.statements);
        leads = ap (λ o. run_from o []) k.leads ∙ ap Some there;
        starts = sym there ∙ dot_starts (is_mark dot s) k.next (ap (λ m. step_at m p.position s) is ∙ k.leads);
        holds = subst (λ q. Holds IncludeClosed q (read_include g.file g.names))
            (ap (λ m. record (add_at m p.position.depth (is_outside_items p.position s) p s line column) { position = k.next }) is ∙ k.is)
            (ap (λ f. read_include f g.names) (sym h.file) ∙ ap (read_include p.asked.file) (sym names));
      }
  at_dot before state p g s line column whole is over h k = absurd cc

  -- all tokens of the statement
  reads : (before : List ReadStatement) (tokens : List Written) (p : Pending) (g : Gathered) (state : State) (whole : Pending) → Follows before p.position.state p.position.brackets p g → TakesStatement is_full selections p tokens state whole → Reads before p g (shapes_of tokens) state whole
  reads before [] p g state whole h t = absurd t
  reads before (t ∷ []) p g state whole h (is, over, takes) = at_dot before state p g t.shape t.line t.column whole is over h (was_taken is_full selections p t.shape t.line t.column whole takes)
  reads before (t ∷ u ∷ more) p g state whole h (within, q, takes, rest) =
      let k = was_taken is_full selections p t.shape t.line t.column q takes in
      let there = ap (λ x. x.position) k.is in
      let added = add_at p.position.state p.position.depth (is_outside_items p.position t.shape) p t.shape t.line t.column in
      let more_gathered = gather p.position t.shape g in
      let step_follows = follows before p.position.level p.position.depth p.position.brackets p g t.shape t.line t.column k.next p.position.state h k.leads within (λ e. subst (λ m. breaks_item m p t.shape ≡ false) e k.whole) in
      let next_follows = subst (λ x. Follows before x.position.state x.position.brackets x more_gathered) k.is (placed before k.next.state k.next.brackets added more_gathered k.next step_follows) in
      let r = reads before (u ∷ more) q more_gathered state whole next_follows rest in
      record {
        says = r.says;
        gathers = ap (λ o. gather_from o more_gathered (shapes_of (u ∷ more))) (k.leads ∙ ap Some there) ∙ r.gathers;
        leads = ap (λ o. run_from o (shapes_of (u ∷ more))) (k.leads ∙ ap Some there) ∙ r.leads;
        starts = r.starts;
        holds = r.holds;
      }

  -- one statement was read
  one_statement : (file : List trees.Statement) (says : ReadStatement) → map meaning file ≡ says ∷ [] → (t : trees.Statement) × (file ≡ t ∷ []) × (meaning t ≡ says)
  one_statement [] says e = absurd cc
  one_statement (t ∷ []) says e = (t, refl, cc)
  one_statement (t ∷ u ∷ more) says e = let none : map meaning (u ∷ more) ≡ [] = cc in absurd cc

  -- behind its dot it is at the start again
  pub starts_again : (tokens : List Written) (state : State) (whole : Pending) → TakesStatement is_full selections fresh tokens state whole → whole.position ≡ start
  starts_again tokens state whole takes = (reads [] tokens fresh (gathered []) state whole (fresh_follows []) takes).starts

  pub meant : ((tokens : List Shape) → LeadsToEnd start tokens → IsFile tokens) → ((file : List trees.Statement) → gather_from (Some start) (gathered []) (spell file) ≡ gathered (map meaning file))
      → (tokens : List Written) (state : State) (whole : Pending) → TakesStatement is_full selections fresh tokens state whole → HoldsItsMeaning tokens state whole
  meant files meanings tokens state whole takes =
      let shapes = shapes_of tokens in
      let r = reads [] tokens fresh (gathered []) state whole (fresh_follows []) takes in
      let file = files shapes (whole.position, r.leads, ap is_end r.starts) in
      let said : map meaning file.0 ≡ r.says ∷ [] = ap (λ g. g.statements) (sym (meanings file.0) ∙ (ap (gather_from (Some start) (gathered [])) file.1 ∙ r.gathers)) in
      let one = one_statement file.0 r.says said in
      (one.0, subst (λ f. spell f ≡ shapes) one.1 file.1, subst (Holds state whole) (sym one.2) r.holds)
