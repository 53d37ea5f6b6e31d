use Rattle.std.proofs.Common.{rules}
use Rattle.java_syntax.specs.declared.class.Member.TheVariants as member
use Rattle.java_names.specs.Refusals.{Refuses}
use Rattle.java_members.specs.Answers.{faults_in}
use Rattle.java_members.proofs.MemberLemmas.{method_params_refused, method_body_refused}
use Rattle.java_members.proofs.methods.method.Goals as goal

pub returns-in_err-declare_params-clause-fault : goal.returns-in_err-declare_params-clause-fault
returns-in_err-declare_params-clause-fault c =
    let among : Refuses (faults_in c.args.env.now c.args.class (member.Method c.args.tree.now)) c.in_err-declare_params.field-0.0 =
    method_params_refused c.args.env.now c.args.class c.args.tree.now _ _ _ c.as_slice-2.ensures c.in_ok-scope.ensures c.in_err-declare_params.ensures.fault in
    search rules

pub returns-in_err-steps-clause-fault : goal.returns-in_err-steps-clause-fault
returns-in_err-steps-clause-fault c =
    let among : Refuses (faults_in c.args.env.now c.args.class (member.Method c.args.tree.now)) c.in_err-steps.field-0.0 =
    method_body_refused c.args.env.now c.args.class c.args.tree.now _ _ _ c.as_slice-2.ensures c.in_ok-scope.ensures _ _ c.in_ok-declare_params.ensures.scope c.as_slice-3.ensures c.in_err-steps.ensures.fault in
    search rules
