pub mod UnderIds
