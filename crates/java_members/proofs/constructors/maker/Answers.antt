use Rattle.std.proofs.Common.{rules}
use Rattle.java_syntax.specs.declared.class.Member.TheVariants as member
use Rattle.java_names.specs.Refusals.{Refuses}
use Rattle.java_members.specs.Answers.{faults_in}
use Rattle.java_members.proofs.MemberLemmas.{maker_params_refused, maker_parent_refused, maker_body_refused}
use Rattle.java_members.proofs.constructors.maker.Goals as goal

pub returns-in_err-declare_params-clause-fault : goal.returns-in_err-declare_params-clause-fault
returns-in_err-declare_params-clause-fault c =
    let among : Refuses (faults_in c.args.env.now c.args.class (member.Maker c.args.tree.now)) c.in_err-declare_params.field-0.0 =
    maker_params_refused c.args.env.now c.args.class c.args.tree.now _ _ _ c.as_slice-2.ensures c.in_ok-scope.ensures c.in_err-declare_params.ensures.fault in
    search rules

pub returns-in_err-parent-clause-fault : goal.returns-in_err-parent-clause-fault
returns-in_err-parent-clause-fault c =
    let among : Refuses (faults_in c.args.env.now c.args.class (member.Maker c.args.tree.now)) c.in_err-parent.field-0.0 =
    maker_parent_refused c.args.env.now c.args.class c.args.tree.now _ _ _ c.as_slice-2.ensures c.in_ok-scope.ensures _ c.in_ok-declare_params.ensures.scope _ c.as_slice-3.ensures
    _ _ c.beginning_of-beginning.ensures.at c.beginning_of-beginning.ensures.given c.in_err-parent.ensures.fault in
    search rules

pub returns-in_err-steps-clause-fault : goal.returns-in_err-steps-clause-fault
returns-in_err-steps-clause-fault c =
    let among : Refuses (faults_in c.args.env.now c.args.class (member.Maker c.args.tree.now)) c.in_err-steps.field-0.0 =
    maker_body_refused c.args.env.now c.args.class c.args.tree.now _ _ _ c.as_slice-2.ensures c.in_ok-scope.ensures _ c.in_ok-declare_params.ensures.scope _ c.as_slice-3.ensures
    _ c.beginning_of-beginning.ensures.rest c.in_err-steps.ensures.fault in
    search rules
