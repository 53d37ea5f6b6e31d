use Rattle.std.proofs.Common.{◌≡◌, ◌∙◌, ap}
use Rattle.std.proofs.lemmas.Result.{err_from_is_err_and}
use Rattle.java_names.specs.Symbols.{symbols_of}
use Rattle.java_exprs.specs.declared.environment.Environment.{Environment}
use Rattle.class_table.specs.Table.{table_of}
use Rattle.java_source.proofs.RefusalLemmas.{blames_throws, blames_types}
use Rattle.java_source.proofs.source.checked.Goals as goal

pub returns-in_err-program-clause-fault : goal.returns-in_err-program-clause-fault
returns-in_err-program-clause-fault c =
    let made = err_from_is_err_and c.from_residual-in_err-program.result c.from_residual-in_err-program.ensures.1 in
    rw (made.1, made.2)
    (blames_types c.args.tree.now _ c.in_ok-table.ensures.accepted (rw c.in_ok-table.ensures.table at c.in_err-program.ensures.fault))

pub returns-in_err-check_file-clause-fault : goal.returns-in_err-check_file-clause-fault
returns-in_err-check_file-clause-fault c =
    let made = err_from_is_err_and c.from_residual-in_err-check_file.result c.from_residual-in_err-check_file.ensures.1 in
    let same : c.resolve_in.new.env.symbols ≡ symbols_of (table_of c.args.tree.now) =
    c.in_ok-program.ensures.symbols ∙ ap (λ (x : Environment). x.symbols) c.in_ok-env.ensures ∙ ap symbols_of c.in_ok-table.ensures.table in
    rw (made.1, made.2)
    (blames_throws c.args.tree.now _ _ same c.in_ok-table.ensures.accepted (rw c.in_ok-table.ensures.table at c.in_ok-program.ensures.clear)
    c.in_err-check_file.ensures)

pub returns-clause-typed : goal.returns-clause-typed
returns-clause-typed c = λ tokens spelled.
    c.in_ok-program.ensures.typed tokens spelled c.in_ok-table.ensures.table c.in_ok-table.ensures.facts c.in_ok-table.ensures.accepted
