use Rattle.d_types.specs.TypedScripts.{typed_script_of}
use Rattle.replay_core.specs.Meaning.{blank_threads, contributions_of, history}
use Rattle.data_lines.proofs.Layouts.{data_of_run}
use Rattle.data_lines.proofs.layout.DataLinesLayout.render.Goals as goal

pub returns : goal.returns
returns g c = λ firings grouping is once.
    let m = typed_script_of c.args.script.now in
    data_of_run m firings grouping c.args.whole.now _ is once
    (c.render.ensures (contributions_of (history m firings blank_threads)) is.table)
