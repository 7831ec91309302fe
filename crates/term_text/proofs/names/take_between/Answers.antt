use Rattle.std.proofs.Common.{◌&&◌, nat_eq, sym, ap, ◌∙◌, drop, subst}
use Rattle.mg_word.specs.Spelling.{is_lower_word}
use Rattle.term_text.specs.Names.{IsOnlyName, NoName, quoted_kind}
use Rattle.term_text.proofs.NameShapes.{between_taken, between_none, between_goes_on, between_bare}
use Rattle.term_text.proofs.names.take_between.Goals as goal

pub returns-in_default : goal.returns-in_default
returns-in_default c =
    let begins = c.requires.begins in
    let behind = c.skip.ensures ∙ ap (drop 1) begins.1 in
    let none = rw c.in_default.is at c.in_ok-rest.ensures in
    subst (λ l. NoName l) (sym begins.1) (between_none c.args.quote begins.0 c.requires.known (rw behind at none))

pub returns-then-not-ends_name : goal.returns-then-not-ends_name
returns-then-not-ends_name c =
    let begins = c.requires.begins in
    let behind = c.skip.ensures ∙ ap (drop 1) begins.1 in
    let so = rw c.in-Some.is at c.in_ok-rest.ensures in
    subst (λ l. NoName l) (sym begins.1) (between_goes_on c.args.quote begins.0 _ _ c.requires.known (rw behind at so) (sym c.if-not-ends_name.ensures))

pub returns-then-may_be_bare : goal.returns-then-may_be_bare
returns-then-may_be_bare c =
    let begins = c.requires.begins in
    let behind = c.skip.ensures ∙ ap (drop 1) begins.1 in
    let so = rw c.in-Some.is at c.in_ok-rest.ensures in
    let bare = ap (λ l. nat_eq c.args.quote 39 && is_lower_word l) (sym c.deref.ensures.value) ∙ sym c.if-may_be_bare.ensures in
    subst (λ l. NoName l) (sym begins.1) (between_bare c.args.quote begins.0 _ _ c.requires.known (rw behind at so) bare)

pub returns : goal.returns
returns c =
    let begins = c.requires.begins in
    let behind = c.skip.ensures ∙ ap (drop 1) begins.1 in
    let so = rw c.in-Some.is at c.in_ok-rest.ensures in
    let bare = ap (λ l. nat_eq c.args.quote 39 && is_lower_word l) (sym c.deref.ensures.value) ∙ sym c.if-may_be_bare.ensures in
    subst (λ l. IsOnlyName l (quoted_kind c.args.quote) c.take_quoted.new.name.items c.in-Some.rest.now) (sym begins.1)
    (between_taken c.args.quote begins.0 _ _ c.requires.known (rw behind at so) (sym c.if-not-ends_name.ensures) bare)
