-- Replies as the program holds them.
use Rattle.ds_terminal.specs.declared.reply.RecordReply as record_reply
use Rattle.ds_terminal.specs.declared.reply.RecordReply.TheVariants as records
use Rattle.ds_terminal.specs.declared.reply.KeyReply as key_reply
use Rattle.ds_terminal.specs.declared.reply.KeyReply.TheVariants as keys
use Rattle.ds_terminal.specs.Terminal.{Reply, shown, answered, nothing, refused, KeyReply, done, inhibited, ignored, sent}

abbrev pub reply_seen : record_reply.RecordReply → Reply
reply_seen (records.Shown effect) = shown effect
reply_seen (records.Sent bytes) = answered bytes.items
reply_seen records.Nothing = nothing
reply_seen (records.Refused why) = refused why

abbrev pub key_reply_seen : key_reply.KeyReply → KeyReply
key_reply_seen keys.Done = done
key_reply_seen keys.Inhibited = inhibited
key_reply_seen keys.Ignored = ignored
key_reply_seen (keys.Sent bytes) = sent bytes.items
