-- The names that the proofs cite, passed on from one place. Declares nothing.
pub use Rattle.std.proofs.Common.{Bool, IsSome, List, None, Option, Some, [], ap, append-nil, append_assoc, ap₂, arith, bytes_eq, codes, cond, drop, false, filter, get_or, inl, inr, is_some, length, length-append, map, nat_eq, nat_lt, not, pred, refl, subst, suc, suc-add, sym, take, true, true≢false, zero, zero-add, ℕ, ◌&&◌, ◌*◌, ◌++◌, ◌+◌, ◌-◌, ◌<◌, ◌==◌, ◌^◌, ◌||◌, ◌↔◌, ◌∙◌, ◌∷◌, ◌≡◌, ◌≤◌, ◌⊎◌}
pub use Rattle.std.proofs.Math.Seq.{drop-cons, take-append_seam}
pub use Rattle.std.proofs.lemmas.Bool.Decides.{nat_tests}
pub use Rattle.std.proofs.lemmas.Slice.Eq.{bytes_eq-Decides}
pub use Rattle.std.specs.Char.{digit_value}
pub use Rattle.std.specs.List.{flat_map, list_all}
pub use Rattle.std.specs.Str.Parse.{digits_value, digits_value_after}
pub use Rattle.mg_word.proofs.Members.{and_true, both_false, both_true, never_true, or_true}
pub use Rattle.cnf_grammar.specs.Conclude.{BeginsConcludeItem, BreaksConcludeItem, IsConcludeItem, are_conclusions_above, conclude_item, conclusions_of, gives_conclusions, has_word_at, item_end, items_of, items_of_info, literals_of, may_follow, names_literal, number_of_token, spell_more_numbers, spell_numbers, values, words_of}
pub use Rattle.cnf_grammar.specs.Draft.{Draft, add_argument, begin_literal, begin_term, close_arguments, close_words, collect_at, constant, draft_of, empty_draft, end_term, end_word, finish, finish_atom, first_argument, has_text, next_argument, next_argument_of, push_constant, push_symbol, push_variable, with_variable}
pub use Rattle.cnf_grammar.specs.Gathering.{Gathered, finish_clause, finish_include, gather, gather_at, gather_from, gather_item, gathered, token_name, token_text}
pub use Rattle.cnf_grammar.specs.Items.{at_item, item_closed, item_open, item_run, item_start, item_step, list_closed, list_open, names_above, number_at, number_read, number_start, other_item, word_read}
pub use Rattle.cnf_grammar.specs.Meaning.{ClauseLiteral, Item, Kind, Named, ReadClause, ReadStatement, Symbol, always, clause_literal, clause_of, count_arguments, count_terms, distinct_kind, each_once, file_text, index_of, integer_kind, items_of_arguments, items_of_term, items_of_terms, meaning, named, never, read_clause, read_include, selected_names, signed, symbol_item, unescaped, unquoted, variable_item, variables_of, variables_of_arguments, variables_of_literal, variables_of_term, variables_of_terms, word_kind, word_text}
pub use Rattle.cnf_grammar.specs.Shapes.{Distinct, Dollar, Lower, NotEqual, Number, Punct, Quoted, Shape, Upper, bar, comma, dot, is_bracket, is_defined, is_file_name, is_keyword, is_lower, is_mark, is_name, is_simple_term, is_word, left_round, left_square, right_round, right_square, shape_of, tilde}
pub use Rattle.cnf_grammar.specs.Soundness.{IsSound, are_terms, begins_with_symbol, is_clean, is_whole, item_suits, item_variables, literal_suits, literal_variables, suits}
pub use Rattle.cnf_grammar.specs.Spelling.{IsFile, IsFront, closing, file_token, name_token, opening, spell, spell_annotations, spell_arguments, spell_atom, spell_balanced, spell_formula, spell_info, spell_items, spell_literal, spell_literals, spell_more_names, spell_names, spell_optional_info, spell_part, spell_parts, spell_selection, spell_source, spell_statement, spell_term, spell_terms, word_token}
pub use Rattle.cnf_grammar.specs.Table.{after_file, after_formula, after_literal, after_selected, after_term, after_word, any_token, atom_start, between, formula_start, in_info, in_source, is_end, is_end_state, literal_start, or_else, run, run_from, selection_open, start, step, step_at, term_start, to, when, within}
pub use Rattle.cnf_grammar.specs.Trees.{Annotations, Arguments, Atom, Balanced, FileName, Formula, Literal, Name, Part, Selection, Term, Terms, Word, annotations, arguments, bare_file, bare_word, bracketed, clause, compound, disjunction, distinct, every_clause, falsity, group, include, negative, no_annotations, no_arguments, no_terms, no_tokens, number, number_name, positive, predicate, quoted_file, quoted_word, selected, single, then_group, then_term, then_token, truth, variable, word_name}
pub use Rattle.cnf_grammar.specs.declared.brackets.Bracket.{Bracket}
pub use Rattle.cnf_grammar.specs.declared.brackets.Bracket.TheVariants.{Round, Square}
pub use Rattle.cnf_grammar.specs.declared.position.Position.{Position}
pub use Rattle.cnf_grammar.specs.declared.state.State.{State}
pub use Rattle.cnf_grammar.specs.declared.state.State.TheVariants.{AtomStart, ClauseClosed, ClauseWord, FileRead, FileStart, FormulaClosed, FormulaStart, IncludeClosed, IncludeWord, Info, InfoClosed, InfoStart, LiteralStart, NameRead, NameStart, RoleRead, RoleStart, SelectedRead, SelectedStart, SelectionClosed, SelectionOpen, SelectionStart, Source, SourceStart, Statement, TermRead, TermStart, WordRead}
pub use Rattle.cnf_grammar.specs.Laws.{IsFirstFault, LeadsToEnd}
pub use Rattle.cnf_grammar.specs.declared.item.ItemState.{ItemState}
pub use Rattle.cnf_grammar.specs.declared.item.ItemState.TheVariants.{Closed, ListClosed, ListOpen, NumberRead, NumberStart, Open, Other, Start}
