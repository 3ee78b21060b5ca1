use Rattle.violations.proofs.Judging.{reply-same, wire-same, any_same, arg-same, span_same, read_same, write_same, body_same}
use Rattle.violations.proofs.Judging.{start-same, other-same}
use Rattle.violations.proofs.is_repeated.Goals as goal

pub returns-in-18 : goal.returns-in-18
returns-in-18 c = λ past s plain. reply-same _ c.args.c past s plain _ c.in-18.is
    c.has_reply.ensures

pub returns-in-32 : goal.returns-in-32
returns-in-32 c = λ past s plain. wire-same _ c.args.c past s plain _ c.in-32.is
    c.is_wired.ensures

pub returns-in-48 : goal.returns-in-48
returns-in-48 c = λ past s plain. any_same _ c.args.c past s plain _ c.in-48.is
    c.may_call_any.ensures

pub returns-in-49 : goal.returns-in-49
returns-in-49 c = λ past s plain. arg-same _ c.args.c past s plain _ c.in-49.is
    c.is_listed.ensures

pub returns-in-50 : goal.returns-in-50
returns-in-50 c = λ past s plain. read_same _ c.args.c past s plain _ c.in-50.is
    c.may_read.ensures

pub returns-in-51 : goal.returns-in-51
returns-in-51 c = λ past s plain. write_same _ c.args.c past s plain _ c.in-51.is
    c.may_write.ensures

pub returns-in-52 : goal.returns-in-52
returns-in-52 c = λ past s plain. span_same _ c.args.c past s plain _ c.in-52.is
    c.is_listed-in-52.ensures

pub returns-in-64 : goal.returns-in-64
returns-in-64 c = λ past s plain. body_same _ c.args.c past s plain _ c.in-64.is
    c.has_body.ensures

pub returns-in-80 : goal.returns-in-80
returns-in-80 c = λ past s plain. start-same _ c.args.c past s plain _ _ c.in-80.is
    c.flow_of-flow.ensures c.has_start.ensures

pub returns-in_default : goal.returns-in_default
returns-in_default c = λ past s plain. other-same _ c.args.c past s plain
    c.in_default.in_default-own.rest.0.0.0.0.0.0.0.0.1 c.in_default.in_default-own.rest.0.0.0.0.0.0.0.1 c.in_default.in_default-own.rest.0.0.0.0.0.0.1 c.in_default.in_default-own.rest.0.0.0.0.0.1 c.in_default.in_default-own.rest.0.0.0.0.1
    c.in_default.in_default-own.rest.0.0.0.1 c.in_default.in_default-own.rest.0.0.1 c.in_default.in_default-own.rest.0.1 c.in_default.in_default-own.rest.1
